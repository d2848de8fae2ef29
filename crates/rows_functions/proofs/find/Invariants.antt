use Rattle.std.proofs.Common.{◌≡◌, ℕ, ◌-◌, ◌≤◌, [], ◌∷◌, length}
use Rattle.model.specs.LookUp.{searched, found_in}
use Rattle.rows_functions.proofs.find.Given as goal

-- no more than `turns` turns are left
abbrev pub invariant-loop-low : goal.invariant-loop-low
invariant-loop-low l =
    record {
      within : l.high ≤ length l.functions;
      turns : ℕ;
      fewer : l.high - l.low ≤ turns;
      found : searched l.functions (l.section.0 ∷ l.address ∷ []) turns l.low l.high ≡ found_in l.functions l.count (l.section.0 ∷ l.address ∷ []);
    }

abbrev pub decreases-loop-low : goal.decreases-loop-low
decreases-loop-low l = l.high - l.low
