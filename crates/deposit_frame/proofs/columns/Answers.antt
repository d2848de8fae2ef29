-- `deposit_frame::columns` meets its contract: each turn adds row 0 to the eight below it.
use Rattle.std.proofs.Common.{arith}
use Rattle.deposit_frame.specs.Columns.{IsSum, IsMoment, nine, below_set}
use Rattle.deposit_frame.proofs.columns.Goals as goal

pub loop-j-preserved : goal.loop-j-preserved
loop-j-preserved c =
    let b = c.args.b.now in
    let q = c.args.q in
    let j = c.loop-j.j in
    let row = nine b q j c.four_above-low.result c.four_above-c.result c.from.result c.four_above-low.ensures c.four_above-c.ensures (omega arith) (omega arith) in (
      below_set (IsSum b q) c.loop-j.sums j _ (omega arith) c.loop-j.invariant.0 row.0,
      below_set (IsMoment b q) c.loop-j.moments j _ (omega arith) c.loop-j.invariant.1 row.1,
    )
