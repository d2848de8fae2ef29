-- The rows of functions that are ordered by their keys rise by theirs.
use Rattle.std.specs.Prelude.{◌≡◌, Bool, cond, ℕ, zero, suc, ◌+◌, ◌<◌, get_or, None, Option, Some}
use Rattle.std.proofs.Math.Path.{refl, sym, ap}
use Rattle.std.proofs.Common.{◌∙◌, inl, inr, add-zero, suc-add, add-suc, not-suc-le-zero, le_of_suc-le-suc}
use Rattle.std.proofs.Math.Bool.{true, false}
use mathlib.Core.List.{List, [], ◌∷◌, ◌++◌}
use native.Mathlib.Omega.{arith}
use Rattle.std.proofs.Math.ListN.{length, get_or-append}
use Rattle.model.specs.declared.Function.{Function as Row}
use Rattle.model.specs.Bytes.{same, before, ◌∈◌}
use Rattle.model.specs.Catalogue.{Function, function_key}
use Rattle.model.specs.Lent.{placed, function_name, function_code, function_row, zero_row}
use Rattle.model.specs.LookUp.{row_key}
use Rattle.lists.specs.Tests.{true-not-false}
use Rattle.orders.specs.Keys.{same-is, same_refl}
use Rattle.guarantees.specs.TableLaws.{First, Sorted}
use Rattle.find_laws.specs.SearchLaws.{place_from, RowsRise}

-- the rows of functions whose first name and first code lie there
abbrev pub function_rows : ℕ → ℕ → List Function → List Row
function_rows = placed function_name function_code function_row

-- a row has its function's key
row-key : (a c : ℕ) (f : Function) → row_key (function_row a c f) ≡ function_key f
unfolding function_row
row-key a c f = refl

pub length-rows : (a c : ℕ) (fs : List Function) → length (function_rows a c fs) ≡ length fs
unfolding placed
length-rows a c [] = refl
length-rows a c (f ∷ fs) = ap suc (length-rows (a + length (function_name f)) (c + length (function_code f)) fs)

-- ---- order

first-row : (x : Function) (a c : ℕ) (fs : List Function) → First function_key x fs → (y : Row) → y ∈ function_rows a c fs → before (function_key x) (row_key y) ≡ true
unfolding placed
first-row x a c [] h y m = absurd m
first-row x a c (f ∷ fs) h y (inl q) = ap (λ (r : Row). before (function_key x) (row_key r)) q ∙ ap (before (function_key x)) (row-key a c f) ∙ h f (inl refl)
first-row x a c (f ∷ fs) h y (inr m) = first-row x (a + length (function_name f)) (c + length (function_code f)) fs (λ g n. h g (inr n)) y m

rows-sorted : (a c : ℕ) (fs : List Function) → Sorted function_key fs → Sorted row_key (function_rows a c fs)
unfolding placed
rows-sorted a c [] s = tt
rows-sorted a c (f ∷ fs) s = (
  λ y m. ap (λ (k : List ℕ). before k (row_key y)) (row-key a c f) ∙ first-row f (a + length (function_name f)) (c + length (function_code f)) fs s.0 y m,
  rows-sorted (a + length (function_name f)) (c + length (function_code f)) fs s.1,
)

get_or-∈ : (l : List Row) (i : ℕ) → i < length l → get_or l i zero_row ∈ l
get_or-∈ [] i h = absurd (not-suc-le-zero h)
get_or-∈ (x ∷ l) zero h = inl refl
get_or-∈ (x ∷ l) (suc i) h = inr (get_or-∈ l i (le_of_suc-le-suc h))

sorted-rise : (l : List Row) → Sorted row_key l → RowsRise l (length l)
sorted-rise [] s i j l h = absurd (not-suc-le-zero h)
sorted-rise (x ∷ t) s i zero l h = absurd (not-suc-le-zero l)
sorted-rise (x ∷ t) s zero (suc j) l h = s.0 (get_or t j zero_row) (get_or-∈ t j (le_of_suc-le-suc h))
sorted-rise (x ∷ t) s (suc i) (suc j) l h = sorted-rise t s.1 i j (le_of_suc-le-suc l) (le_of_suc-le-suc h)

-- and with more rows behind
pub front-rises : (a c : ℕ) (fs : List Function) (more : List Row) → Sorted function_key fs → RowsRise (function_rows a c fs ++ more) (length (function_rows a c fs))
front-rises a c fs more s i j l h =
    let g : i < length (function_rows a c fs) = omega arith in
    rw (get_or-append (function_rows a c fs) more zero_row i g, get_or-append (function_rows a c fs) more zero_row j h) (sorted-rise (function_rows a c fs) (rows-sorted a c fs s) i j l h)

-- ---- places

module _ (k : List ℕ) where
  -- the place of the first function that has the key; the list's first stands at place i
  unfoldable pub function_place : ℕ → List Function → Option ℕ
  function_place i [] = None
  function_place i (f ∷ fs) = cond (same (function_key f) k) (Some i) (function_place (suc i) fs)

  -- that of its row
  pub place_is : (i a c : ℕ) (fs : List Function) → place_from k i (function_rows a c fs) ≡ function_place i fs
  unfolding placed place_from function_place
  place_is i a c [] = refl
  place_is i a c (f ∷ fs) = rw (row-key a c f, place_is (suc i) (a + length (function_name f)) (c + length (function_code f)) fs)

  pub place_none : (i : ℕ) (fs : List Function) → ((f : Function) → f ∈ fs → same (function_key f) k ≡ false) → function_place i fs ≡ None
  unfolding function_place
  place_none i [] other = refl
  place_none i (f ∷ fs) other = rw (other f (inl refl)) (place_none (suc i) fs (λ g m. other g (inr m)))

  -- a place m behind i, at a row that has the key
  abbrev Placed : ℕ → ℕ → ℕ → List Function → Option ℕ → Type 0
  Placed a c i fs p = (m : ℕ) × (p ≡ Some (i + m)) × (m < length fs) × (row_key (get_or (function_rows a c fs) m zero_row) ≡ k)

  -- a function that has the key is found
  pub place-some : (a c i : ℕ) (fs : List Function) (f : Function) → f ∈ fs → function_key f ≡ k → Placed a c i fs (function_place i fs)
  unfolding placed function_place
  place-some a c i [] f m e = absurd m
  place-some a c i (g ∷ fs) f m e = go (same (function_key g) k) refl m (λ n. place-some (a + length (function_name g)) (c + length (function_code g)) (suc i) fs f n e)
    where
      go : (b : Bool) → same (function_key g) k ≡ b → f ∈ (g ∷ fs) → (f ∈ fs → Placed (a + length (function_name g)) (c + length (function_code g)) (suc i) fs (function_place (suc i) fs))
          → Placed a c i (g ∷ fs) (cond b (Some i) (function_place (suc i) fs))
      go true q n r = (0, ap Some (sym (add-zero i)), omega arith, row-key a c g ∙ same-is (function_key g) k q)
      go false q (inl p) r = true-not-false (sym (same_refl k) ∙ ap (λ (l : List ℕ). same l k) (sym e ∙ ap function_key p) ∙ q)
      go false q (inr n) r = let (j, found, l, key) = r n in (suc j, found ∙ ap Some (suc-add i j ∙ sym (add-suc i j)), omega arith, key)
