use Prim.Native.Nat.{ℕ, ◌-◌, ◌<◌, ◌≤◌}
use Rattle.records.specs.Of.{of}
use Rattle.records.specs.View.{section_at}
use Rattle.symbol_section.proofs.lower_bound.Given as goal

abbrev pub invariant-loop-low : goal.invariant-loop-low
invariant-loop-low l =
    (l.low ≤ l.high) × (l.high ≤ l.object.records.view.sections) × ((i : ℕ) → i < l.low → (of section_at l.object.records i).index.0 < l.k.0)
    × ((i : ℕ) → l.high ≤ i → i < l.object.records.view.sections → l.k.0 ≤ (of section_at l.object.records i).index.0)

abbrev pub decreases-loop-low : goal.decreases-loop-low
decreases-loop-low l = l.high - l.low
