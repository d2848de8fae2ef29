-- `number` meets its contract: the empty word is none of the table's.
use Rattle.std.proofs.Common.{sym, take, length-take, arith}
use Rattle.program_section.specs.Words.{empty-word}
use Rattle.program_section.proofs.number.Goals as goal

pub returns-then-n-eq0 : goal.returns-then-n-eq0
returns-then-n-eq0 c = let a = c.args in sym (empty-word (take a.n a.v.now) (rw length-take (omega (arith, c.if-n-eq0.true))))
