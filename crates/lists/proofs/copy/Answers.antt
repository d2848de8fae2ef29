-- `lists::copy` meets its contract: those copied stand in front of what dst had.
use Rattle.std.proofs.Common.{arith}
use Rattle.lists.specs.Tab.{copy_more}
use Rattle.lists.proofs.copy.Goals as goal

pub loop-i-preserved : goal.loop-i-preserved
loop-i-preserved g c =
    rw (c.loop-i.invariant, c.index-src-i.is) (copy_more c.args.src.now c.args.dst.now c.loop-i.i c.index-src-i.result (omega arith) (omega arith))
