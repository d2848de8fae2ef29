use Rattle.std.proofs.Common.{◌≡◌, ◌*◌, ◌≤◌}
use Rattle.deposit_frame.specs.Columns.{total, plain, weighed}
use Rattle.deposit_frame.proofs.rows_sum.Given as goal

abbrev pub invariant-loop-j : goal.invariant-loop-j
invariant-loop-j l = (l.sum ≡ total (weighed l.sums) l.j) × (l.moment ≡ total (plain l.moments) l.j) × (l.sum ≤ 128520 * l.j) × (l.moment ≤ 9180 * l.j)
