-- The rows of the function table as numbers, one row after the other.
use Rattle.std.specs.Prelude.{◌≡◌, refl, take, drop, replicate}
use Rattle.std.proofs.Math.Path.{sym, ap}
use Rattle.std.proofs.Common.{◌∙◌, suc-mul, add-one, arith}
use mathlib.Core.List.{List, [], ◌∷◌, ◌++◌}
use Prim.Native.Nat.{ℕ, zero, suc, ◌+◌, ◌-◌, ◌*◌, ◌≤◌}
use Rattle.std.proofs.Math.ListN.{length}
use Rattle.std.proofs.lemmas.List.Edits.{sets}
use Rattle.lists.specs.Tab.{rows, rows_none, rows-suc, length-rows, rows-sets, tail-fill}
use Rattle.model.specs.declared.Function.{Function}
use Rattle.model.specs.Bytes.{each}
use Rattle.model.specs.FunctionNumbers.{row_numbers, flat_rows}
use Rattle.model.specs.Lent.{filled}
use Rattle.catalogue_laws.specs.Numbers.{each_append}
use Rattle.object_view.specs.declared.View.{View}
use Rattle.rows_functions.specs.declared.Made.{Made}
use Rattle.rows_functions.specs.declared.Rows.{Rows}
use Rattle.rows_functions.specs.Rows.{rows_made}
use Rattle.rows_functions.specs.Stored.{made_at, rows_next}

pub length-flat : (fs : List Function) → length (flat_rows fs) ≡ length fs * 7
unfolding flat_rows each
length-flat [] = refl
length-flat (f ∷ fs) = rw (suc-mul, ← length-flat fs) (omega arith)

flat-last : (fs : List Function) (f : Function) → flat_rows (fs ++ (f ∷ [])) ≡ flat_rows fs ++ row_numbers f
unfolding flat_rows each
flat-last fs f = each_append row_numbers fs (f ∷ [])

-- ---- a loop that stores the rows from the first on

module _ (d t : List ℕ) (v : View) (order : List ℕ) (made : Rows) where
  abbrev numbers_at : ℕ → List ℕ
  numbers_at i = row_numbers (made_at d t v order made i).row

  rows_all : (k : ℕ) → rows numbers_at k ≡ flat_rows (rows_made d t v order 0 made k)
  unfolding rows_made flat_rows each
  rows_all zero = rows_none numbers_at
  rows_all (suc k) =
      rows-suc numbers_at k
      ∙ ap (λ (l : List ℕ). l ++ numbers_at k) (rows_all k)
      ∙ sym (flat-last (rows_made d t v order 0 made k) (made_at d t v order made k).row)
      ∙ ap flat_rows (sym (rows_next d t v order made k))
      ∙ ap (λ (n : ℕ). flat_rows (rows_made d t v order 0 made n)) (add-one k)

  module _ (ns : List ℕ) where
    -- the numbers with the first k rows stored
    unfoldable pub numbers_stored : ℕ → List ℕ
    numbers_stored k = rows numbers_at k ++ drop (k * 7) ns

    pub stored-none : numbers_stored 0 ≡ ns
    unfolding numbers_stored
    stored-none = rw (rows_none numbers_at)

    -- row m stored behind them, in xs
    pub stored_next : (k : ℕ) (xs : List ℕ) (m : Made) → m ≡ made_at d t v order made k → xs ≡ numbers_stored k → k * 7 + 7 ≤ length ns
        → sets xs (k * 7) (row_numbers m.row) ≡ numbers_stored (k + 1)
    unfolding numbers_stored
    stored_next k xs m e f h = rw (e, f) (rows-sets numbers_at 7 k ns (λ i. refl) h)

    -- all rows are stored in xs, and what stands behind is lent as a part and comes back as zeros
    pub stored-all : (k : ℕ) (xs ys : List ℕ) → k * 7 ≤ length ns → xs ≡ numbers_stored k → ys ≡ replicate (length (take (length xs - k * 7) (drop (k * 7) xs))) 0
        → take (k * 7) xs ++ (ys ++ drop (length xs - k * 7) (drop (k * 7) xs)) ≡ filled 0 (length ns) (flat_rows (rows_made d t v order 0 made k))
    unfolding numbers_stored
    stored-all k xs ys h e q =
        let l : length (rows numbers_at k) ≡ k * 7 = length-rows numbers_at 7 k (λ i. refl) in
        tail-fill (k * 7) (rows numbers_at k) ns xs ys 0 l h e q ∙ rw (← l, rows_all k)
