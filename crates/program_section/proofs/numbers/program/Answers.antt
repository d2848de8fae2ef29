-- `numbers::program` meets its contract: past the last number stands what 0 gives.
use Rattle.std.proofs.Common.{rules}
use Rattle.model.specs.ReadBack.{program_from}
use Rattle.lists.specs.Default.{NoneOf, get_or-first}
use Rattle.program_section.proofs.numbers.program.Goals as goal

pub returns-in_default : goal.returns-in_default
unfolding program_from
returns-in_default c = let h : NoneOf c.args.n 29 = search rules in rw get_or-first
