use Rattle.std.proofs.Common.{◌≡◌, ◌*◌, ◌≤◌, take}
use Rattle.model.specs.Deposit.{weigh}
use Rattle.deposit_frame.proofs.rest_sum.Given as goal

abbrev pub invariant-loop-k : goal.invariant-loop-k
invariant-loop-k l = (l.sum ≡ weigh 0 (take l.k l.b)) × (l.sum ≤ 129540 * l.k)
