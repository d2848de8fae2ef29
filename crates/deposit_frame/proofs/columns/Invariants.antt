use Rattle.deposit_frame.specs.Columns.{Below, IsSum, IsMoment}
use Rattle.deposit_frame.proofs.columns.Given as goal

abbrev pub invariant-loop-j : goal.invariant-loop-j
invariant-loop-j l = Below (IsSum l.b l.q) l.sums l.j × Below (IsMoment l.b l.q) l.moments l.j
