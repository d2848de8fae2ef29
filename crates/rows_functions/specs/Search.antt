-- The search by halves, turn by turn.
use Rattle.std.specs.Prelude.{◌≡◌, Bool, List, length, get_or, None, Option, Some}
use Rattle.std.proofs.Math.Path.{refl, sym}
use Rattle.std.proofs.Common.{◌∙◌, arith}
use Rattle.std.proofs.Math.Bool.{true, false, cond}
use Prim.Native.Nat.{ℕ, zero, suc, ◌+◌, ◌-◌, ◌<◌, ◌≤◌, min}
use borrow.Author.Tests.{lt-ltb, le-ltb}
use Rattle.model.specs.declared.Function.{Function}
use Rattle.model.specs.Bytes.{same, before}
use Rattle.model.specs.Lent.{zero_row}
use Rattle.model.specs.LookUp.{row_key, middle, searched, found_in}
use Rattle.std.specs.declared.cmp.Ordering.{Ordering}
use Rattle.orders.specs.Compare.{by_tests, ordering}

module _ (fs : List Function) (k : List ℕ) where
  -- what is found by n more turns, by how the key of the row in the middle stands to the key
  abbrev pub turned : ℕ → ℕ → ℕ → Ordering → Option ℕ
  turned n low high Ordering.Less = searched fs k n (middle low high + 1) high
  turned n low high Ordering.Equal = Some (middle low high)
  turned n low high Ordering.Greater = searched fs k n low (middle low high)

  pub none-left : (n low high : ℕ) → high ≤ low → searched fs k n low high ≡ None
  unfolding searched
  none-left zero low high h = refl
  none-left (suc n) low high h = rw (le-ltb low high h)

  next-turn : (n low high : ℕ) → low < high → searched fs k (suc n) low high ≡ turned n low high (ordering (row_key (get_or fs (middle low high) zero_row)) k)
  unfolding searched ordering
  next-turn n low high l = rw (lt-ltb low high l) (go (same (row_key (get_or fs (middle low high) zero_row)) k) (before (row_key (get_or fs (middle low high) zero_row)) k))
    where
      go : (s t : Bool) → cond s (Some (middle low high)) (cond t (searched fs k n (middle low high + 1) high) (searched fs k n low (middle low high))) ≡ turned n low high (by_tests s t)
      go true t = refl
      go false true = refl
      go false false = refl

  -- a turn, where the middle row's key stands so to the key
  pub a-turn : (n low high : ℕ) (o : Ordering) (found : Option ℕ) → low < high → high - low ≤ n → o ≡ ordering (row_key (get_or fs (middle low high) zero_row)) k
      → searched fs k n low high ≡ found → turned (n - 1) low high o ≡ found
  a-turn zero low high o found l fewer e s = absurd (omega arith)
  a-turn (suc n) low high o found l fewer e s = let i : suc n - 1 ≡ n = omega arith in rw (i, e) (sym (next-turn n low high l) ∙ s)

pub found-by-turns : (fs : List Function) (count : ℕ) (k : List ℕ) → searched fs k (min count (length fs)) 0 (min count (length fs)) ≡ found_in fs count k
unfolding found_in
found-by-turns fs count k = refl
