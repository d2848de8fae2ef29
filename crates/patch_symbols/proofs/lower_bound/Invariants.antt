use Rattle.std.proofs.Common.{◌≡◌, ℕ, ◌-◌, ◌<◌, ◌≤◌, true, false, length}
use Rattle.model.specs.Bytes.{before}
use Rattle.records.specs.Of.{of}
use Rattle.patch_symbols.specs.Search.{length_and_name, length_first, key_at}
use Rattle.patch_symbols.proofs.lower_bound.Given as goal

abbrev pub invariant-loop-low : goal.invariant-loop-low
invariant-loop-low l =
    let key = key_at (of length_and_name l.records) (length_first l.word) l.symbols in
    record {
      apart : l.low ≤ l.high;
      within : l.high ≤ length l.symbols;
      below : (i : ℕ) → i < l.low → before (key i) (length_first l.word) ≡ true;
      above : (i : ℕ) → l.high ≤ i → i < length l.symbols → before (key i) (length_first l.word) ≡ false;
    }

abbrev pub decreases-loop-low : goal.decreases-loop-low
decreases-loop-low l = l.high - l.low
