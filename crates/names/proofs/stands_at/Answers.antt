-- `names::stands_at` meets its contract: the slice of a word that lies in one block holds its bytes.
use Rattle.std.proofs.Common.{ap, ◌∙◌}
use Rattle.model.specs.Bytes.{same}
use Rattle.stream.specs.Same.{same-eq}
use Rattle.names.proofs.stands_at.Goals as goal

pub returns-in-Some : goal.returns-in-Some
returns-in-Some c = c.eq.ensures ∙ same-eq c.args.word.now c.in-Some.bytes.now ∙ ap (same c.args.word.now) c.in-Some.ensures
