-- In a table whose rows rise by their keys, the search by halves finds the row that has the key.
use Rattle.std.specs.Prelude.{◌≡◌, Bool, length, get_or, take, None, Option, Some}
use Rattle.std.proofs.Math.Path.{refl, sym, ap}
use Rattle.std.proofs.Common.{◌∙◌, ⊎_elim, suc-add, add-suc, not-suc-le-zero, le_of_suc-le-suc, eq-or-lt_of_le, arith, ltb-true, ltb-false, get_or-take, length-take-le}
use Rattle.std.proofs.Math.Bool.{true, false, cond}
use mathlib.Core.List.{List, [], ◌∷◌}
use Prim.Native.Nat.{ℕ, zero, suc, ◌+◌, ◌-◌, ◌<◌, ◌≤◌, min}
use Rattle.std.proofs.Math.Nat.{add-zero}
use Rattle.std.proofs.Math.Dec.{ltb}
use Rattle.model.specs.declared.Function.{Function}
use Rattle.model.specs.Bytes.{same, before}
use Rattle.model.specs.Lent.{zero_row}
use Rattle.model.specs.LookUp.{row_key, middle, searched, found_in}
use Rattle.orders.specs.Keys.{same-is, before-trans, before-only, after_is}

module _ (k : List ℕ) where
  -- the place of the first row that has the key; the list's first row stands at place i
  unfoldable pub place_from : ℕ → List Function → Option ℕ
  place_from i [] = None
  place_from i (f ∷ fs) = cond (same (row_key f) k) (Some i) (place_from (suc i) fs)

  place_at : (i m : ℕ) (fs : List Function) → m < length fs → same (row_key (get_or fs m zero_row)) k ≡ true
      → ((n : ℕ) → n < m → same (row_key (get_or fs n zero_row)) k ≡ false) → place_from i fs ≡ Some (i + m)
  unfolding place_from
  place_at i m [] l e none = absurd (not-suc-le-zero l)
  place_at i zero (f ∷ fs) l e none = rw (e, add-zero i)
  place_at i (suc m) (f ∷ fs) l e none =
      let first : same (row_key f) k ≡ false = none 0 (omega arith) in
      rw first (place_at (suc i) m fs (le_of_suc-le-suc l) e (λ n h. none (suc n) (omega arith)) ∙ ap Some (suc-add i m ∙ sym (add-suc i m)))

  place_none : (i : ℕ) (fs : List Function) → ((n : ℕ) → n < length fs → same (row_key (get_or fs n zero_row)) k ≡ false) → place_from i fs ≡ None
  unfolding place_from
  place_none i [] none = refl
  place_none i (f ∷ fs) none =
      let first : same (row_key f) k ≡ false = none 0 (omega arith) in
      rw first (place_none (suc i) fs (λ n h. none (suc n) (omega arith)))

-- the first h rows rise by their keys
abbrev pub RowsRise : List Function → ℕ → Type 0
RowsRise fs h = (i j : ℕ) → i < j → j < h → before (row_key (get_or fs i zero_row)) (row_key (get_or fs j zero_row)) ≡ true

module _ (k : List ℕ) (fs : List Function) (h : ℕ) (within : h ≤ length fs) (rise : RowsRise fs h) where
  abbrev key : ℕ → List ℕ
  key i = row_key (get_or fs i zero_row)

  abbrev place : Option ℕ
  place = place_from k 0 (take h fs)

  -- the keys of the rows below low are before the key, and those from high on are after it
  abbrev Below : ℕ → Type 0
  Below low = (i : ℕ) → i < low → before (key i) k ≡ true

  abbrev Above : ℕ → Type 0
  Above high = (i : ℕ) → high ≤ i → i < h → before k (key i) ≡ true

  row_same : (i : ℕ) (b : Bool) → i < h → same (key i) k ≡ b → same (row_key (get_or (take h fs) i zero_row)) k ≡ b
  row_same i b l e = rw (get_or-take h fs i zero_row l) e

  long : length (take h fs) ≡ h
  long = length-take-le h fs within

  nothing_is : (low high : ℕ) → high ≤ low → Below low → Above high → None ≡ place
  nothing_is low high l below above = sym (place_none k 0 (take h fs) (λ i t. let u : i < h = rw long at t in row_same i false u (other i u)))
    where
      other : (i : ℕ) → i < h → same (key i) k ≡ false
      other i u = go (ltb i low) refl
        where
          go : (b : Bool) → ltb i low ≡ b → same (key i) k ≡ false
          go true e = (before-only (key i) k (below i (ltb-true i low e))).0
          go false e = let g : low ≤ i = ltb-false i low e in (before-only k (key i) (above i (omega arith) u)).1

  at-is : (m : ℕ) → m < h → same (key m) k ≡ true → Some m ≡ place
  at-is m l e =
      let t : m < length (take h fs) = rw long l in
      let z : 0 + m ≡ m = omega arith in
      sym (place_at k 0 m (take h fs) t (row_same m true l e) (λ n u. row_same n false (omega arith) (earlier n u)) ∙ ap Some z)
    where
      earlier : (n : ℕ) → n < m → same (key n) k ≡ false
      earlier n u = rw (same-is (key m) k e) at (before-only (key n) (key m) (rise n m u l)).0

  -- one halving
  module _ (n low high : ℕ) (l : low < high) (top : high ≤ h) (below : Below low) (above : Above high) where
    abbrev m : ℕ
    m = middle low high

    -- what is left finds the place
    abbrev Finds : Type 0
    Finds = (lo hi : ℕ) → hi - lo ≤ n → hi ≤ h → Below lo → Above hi → searched fs k n lo hi ≡ place

    halved : high - low ≤ suc n → Finds → cond (same (key m) k) (Some m) (cond (before (key m) k) (searched fs k n (m + 1) high) (searched fs k n low m)) ≡ place
    halved steps finds = go (same (key m) k) (before (key m) k) refl refl
      where
        inside : m < h
        inside = omega arith

        upper : before (key m) k ≡ true → Below (m + 1)
        upper e i t =
            let u : i ≤ m = omega arith in
            ⊎_elim (λ q. rw q e) (λ lt. before-trans (key i) (key m) k (rise i m lt inside) e) (eq-or-lt_of_le u)

        lower : before k (key m) ≡ true → Above m
        lower e i t u = ⊎_elim (λ q. rw (← q) e) (λ lt. before-trans k (key m) (key i) e (rise m i lt u)) (eq-or-lt_of_le t)

        go : (s t : Bool) → same (key m) k ≡ s → before (key m) k ≡ t → cond s (Some m) (cond t (searched fs k n (m + 1) high) (searched fs k n low m)) ≡ place
        go true t p q = at-is m inside p
        go false true p q = finds (m + 1) high (omega arith) top (upper q) above
        go false false p q = finds low m (omega arith) (omega arith) below (lower (after_is (key m) k q p))

  finds-place : (n low high : ℕ) → high - low ≤ n → high ≤ h → Below low → Above high → searched fs k n low high ≡ place
  unfolding searched
  finds-place zero low high steps top below above = nothing_is low high (omega arith) below above
  finds-place (suc n) low high steps top below above =
      by-test (ltb low high) refl (λ l. halved n low high l top below above steps (finds-place n)) (λ g. nothing_is low high g below above)
    where
      by-test : {x : (Option ℕ)} (b : Bool) → ltb low high ≡ b → (low < high → x ≡ place) → (high ≤ low → None ≡ place) → cond b x None ≡ place
      by-test true e f g = f (ltb-true low high e)
      by-test false e f g = g (ltb-false low high e)

-- among the first rows of a table, which rise by their keys: the place of the row that has the key, or nothing
pub found-is : (fs : List Function) (count : ℕ) (k : List ℕ) → RowsRise fs (min count (length fs)) → found_in fs count k ≡ place_from k 0 (take (min count (length fs)) fs)
unfolding found_in
found-is fs count k rise =
    finds-place k fs (min count (length fs)) (omega arith) rise (min count (length fs)) 0 (min count (length fs)) (omega arith) (omega arith) (λ i l. absurd (not-suc-le-zero l)) (λ i g l. absurd (never i (min count (length fs)) g l))
  where
    never : (i n : ℕ) → n ≤ i → i < n → ⊥
    never i n g l = omega arith
