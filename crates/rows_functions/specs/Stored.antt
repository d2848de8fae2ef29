-- Rows stored one after the other: what is left behind some of them, and a table whose front they are.
use Rattle.std.specs.Prelude.{◌≡◌, length, get_or, drop, set, replicate}
use Rattle.std.proofs.Math.Path.{refl, ap}
use Rattle.std.proofs.Common.{sym, ◌∙◌, zero-add, add-zero, suc-add, add-suc, add-one, arith, length-append, length-drop, drop-cons}
use mathlib.Core.List.{List, [], ◌∷◌, ◌++◌, append-nil, append_assoc}
use Prim.Native.Nat.{ℕ, zero, suc, ◌+◌, ◌<◌, ◌≤◌}
use borrow.Author.Tests.{le-ltb}
use Rattle.std.proofs.Math.Seq.{drop-length}
use Rattle.std.proofs.lemmas.List.{set_at}
use Rattle.model.specs.declared.Function.{Function}
use Rattle.model.specs.Lent.{zero_row}
use Rattle.rows_functions.specs.declared.Made.{Made}
use Rattle.rows_functions.specs.declared.Rows.{Rows}
use Rattle.object_view.specs.declared.View.{View}
use Rattle.rows_functions.specs.Rows.{made_of, rows_made, made_none}

module _ (d t : List ℕ) (v : View) (order : List ℕ) where
  -- what is left behind k rows from row i on
  unfoldable pub rest_made : ℕ → Rows → ℕ → Rows
  rest_made i rows zero = rows
  rest_made i rows (suc k) = rest_made (suc i) (made_of d t v order i rows).rest k

  pub length-made : (i : ℕ) (rows : Rows) (n : ℕ) → length (rows_made d t v order i rows n) ≡ n
  unfolding rows_made
  length-made i rows zero = refl
  length-made i rows (suc n) = ap suc (length-made (suc i) (made_of d t v order i rows).rest n)

  moved : (i k : ℕ) → suc i + k ≡ i + suc k
  moved i k = suc-add i k ∙ sym (add-suc i k)

  rows_last : (i : ℕ) (rows : Rows) (k : ℕ)
      → rows_made d t v order i rows (suc k) ≡ rows_made d t v order i rows k ++ ((made_of d t v order (i + k) (rest_made i rows k)).row ∷ [])
  unfolding rows_made rest_made
  rows_last i rows zero = ap (λ (j : ℕ). (made_of d t v order j rows).row ∷ []) (sym (add-zero i))
  rows_last i rows (suc k) =
      ap (λ (l : List Function). (made_of d t v order i rows).row ∷ l) (rows_last (suc i) (made_of d t v order i rows).rest k ∙ rw (moved i k))

  rest-last : (i : ℕ) (rows : Rows) (k : ℕ) → rest_made i rows (suc k) ≡ (made_of d t v order (i + k) (rest_made i rows k)).rest
  unfolding rest_made
  rest-last i rows zero = ap (λ (j : ℕ). (made_of d t v order j rows).rest) (sym (add-zero i))
  rest-last i rows (suc k) = rest-last (suc i) (made_of d t v order i rows).rest k ∙ rw (moved i k)

  -- ---- a loop that stores the rows from the first on

  module _ (rows : Rows) where
    -- row k, and what is left behind it
    abbrev pub made_at : ℕ → Made
    made_at k = made_of d t v order k (rest_made 0 rows k)

    pub rest-none : rest_made 0 rows 0 ≡ rows
    unfolding rest_made
    rest-none = refl

    pub rest-next : (k : ℕ) → (made_at k).rest ≡ rest_made 0 rows (k + 1)
    rest-next k = rw (add-one k, rest-last 0 rows k, zero-add k)

    pub rows_next : (k : ℕ) → rows_made d t v order 0 rows (k + 1) ≡ rows_made d t v order 0 rows k ++ ((made_at k).row ∷ [])
    rows_next k = rw (add-one k, rows_last 0 rows k, zero-add k)

    module _ (fs : List Function) where
      -- the table with its first k rows stored
      abbrev pub stored : ℕ → List Function
      stored k = rows_made d t v order 0 rows k ++ drop k fs

      pub stored-none : stored 0 ≡ fs
      unfolding rows_made
      stored-none = refl

      pub length-stored : (k : ℕ) → k ≤ length fs → length (stored k) ≡ length fs
      length-stored k h = rw (length-append, length-made 0 rows k, length-drop) (omega arith)

      pub stored_next : (k : ℕ) → k < length fs → set (stored k) k (made_at k).row ≡ stored (k + 1)
      stored_next k h =
          ap (λ (r : List Function). set (rows_made d t v order 0 rows k ++ r) k (made_at k).row) (drop-cons fs k zero_row h)
          ∙ set_at (rows_made d t v order 0 rows k) (get_or fs k zero_row) (drop (suc k) fs) (made_at k).row k (length-made 0 rows k)
          ∙ rw (rows_next k, append_assoc, add-one)

      pub stored-all : stored (length fs) ≡ rows_made d t v order 0 rows (length fs)
      stored-all = rw (drop-length fs, append-nil)

  -- ---- no row is left to store

  pub rows-past : (i : ℕ) (rows : Rows) (n : ℕ) → length order ≤ i → rows_made d t v order i rows n ≡ replicate n zero_row
  unfolding rows_made
  rows-past i rows zero h = refl
  rows-past i rows (suc n) h =
      let m : made_of d t v order i rows ≡ record { row = zero_row; rest = rows } = made_none d t v order i rows (le-ltb i (length order) h) in
      rw (m, rows-past (suc i) rows n (omega arith))
