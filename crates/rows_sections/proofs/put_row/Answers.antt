-- `rows_sections::put_row` meets its contract: the part that was copied over is where `sets` stores.
use Rattle.std.proofs.Common.{arith}
use Rattle.std.proofs.lemmas.Grind.{common_steps}
use Rattle.std.proofs.lemmas.List.Edits.{sets-eq}
use Rattle.rows_sections.proofs.put_row.Goals as goal

pub returns : goal.returns
returns g c = grind (arith, common_steps, sets-eq)
