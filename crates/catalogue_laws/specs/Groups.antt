-- A group of record numbers, the part of a list from one index to another: loops over it that look for a first answer, or that collect.
use Rattle.std.specs.Prelude.{◌≡◌, refl, Bool, true, false, cond, List, [], ◌∷◌, ◌++◌, map, ℕ, zero, suc, ◌+◌, ◌-◌, ◌<◌, ◌≤◌, length, get_or, take, drop, set, None, Option, Some}
use Rattle.std.proofs.Common.{ap, ◌∙◌, append-nil, not-suc-le-zero, le_of_suc-le-suc, arith, length-append, get_or-take, get_or-drop}
use Rattle.std.proofs.Math.Seq.{slice, length-slice}
use Rattle.lists.specs.Tab.{tab}
use Rattle.lists.specs.Slice.{slice-next, slice-none, slice-more, put_next, put-none}
use Rattle.model.specs.Bytes.{push, keep, first_in, or_else}
use Rattle.catalogue_laws.specs.Numbers.{up_to, keep_append, map-append}
use Rattle.catalogue_laws.specs.SectionsPrograms.{All, all-kept}
use Rattle.catalogue_laws.specs.FunctionsMaps.{all_append}

-- ---- a first answer

module _ {B : Type 0} (g : ℕ → Option B) (i t : ℕ) (l : List ℕ) where
  -- None at i
  pub first_next : i < t → t ≤ length l → g (get_or l i 0) ≡ None → first_in g (slice i t l) ≡ first_in g (slice (i + 1) t l)
  unfolding first_in
  first_next h k e = rw (slice-next i t l 0 h k, e)

  pub first_found : (b : B) → i < t → t ≤ length l → g (get_or l i 0) ≡ Some b → first_in g (slice i t l) ≡ Some b
  unfolding first_in
  first_found b h k e = rw (slice-next i t l 0 h k, e)

  pub first-end : t ≤ i → first_in g (slice i t l) ≡ None
  unfolding first_in
  first-end h = rw (slice-none i t l h)

-- of those that pass a test
pub first-kept : {A B : Type 0} (f : A → Option B) (at : ℕ → A) (p : ℕ → Bool) (l : List ℕ)
    → first_in f (map at (keep p l)) ≡ first_in (λ j. cond (p j) (f (at j)) None) l
unfolding keep first_in
first-kept f at p [] = refl
first-kept f at p (j ∷ l) = go (p j) (first-kept f at p l)
  where
    go : (b : Bool) → first_in f (map at (keep p l)) ≡ first_in (λ j. cond (p j) (f (at j)) None) l
        → first_in f (map at (push b j (keep p l))) ≡ or_else (cond b (f (at j)) None) (first_in (λ j. cond (p j) (f (at j)) None) l)
    go true h = ap (or_else (f (at j))) h
    go false h = h

-- ---- those that pass a test, collected

module _ (f i : ℕ) (l : List ℕ) (from : f ≤ i) (inside : i < length l) where
  module _ (p : ℕ → Bool) where
    pub keep-in : p (get_or l i 0) ≡ true → keep p (slice f (i + 1) l) ≡ keep p (slice f i l) ++ (get_or l i 0 ∷ [])
    unfolding keep
    keep-in e = rw (slice-more f i l 0 from inside, keep_append p (slice f i l) (get_or l i 0 ∷ []), e)

    pub keep_out : p (get_or l i 0) ≡ false → keep p (slice f (i + 1) l) ≡ keep p (slice f i l)
    unfolding keep
    keep_out e = rw (slice-more f i l 0 from inside, keep_append p (slice f i l) (get_or l i 0 ∷ []), e, append-nil)

  -- an answer for each
  pub map-in : (g : ℕ → ℕ) → map g (slice f (i + 1) l) ≡ map g (slice f i l) ++ (g (get_or l i 0) ∷ [])
  map-in g = rw (slice-more f i l 0 from inside, map-append g (slice f i l) (get_or l i 0 ∷ []))

pub keep-start : (p : ℕ → Bool) (f : ℕ) (l : List ℕ) → keep p (slice f f l) ≡ []
unfolding keep
keep-start p f l = let h : f ≤ f = omega arith in rw (slice-none f f l h)

pub map-start : (g : ℕ → ℕ) (f : ℕ) (l : List ℕ) → map g (slice f f l) ≡ []
map-start g f l = let h : f ≤ f = omega arith in rw (slice-none f f l h)

-- xs lies in t behind its first w, up to n, and the rest is as it was
pub record LaidFrom (w n : ℕ) (xs t out : List ℕ) : Type 0 where
  pub count : n ≡ w + length xs
  pub held : out ≡ take w t ++ (xs ++ drop n t)

pub laid_none : (w : ℕ) (xs t : List ℕ) → xs ≡ [] → LaidFrom w w xs t t
laid_none w xs t e = record { count = rw e (omega arith); held = rw e (put-none w t) }

module _ {w n : ℕ} {xs t out : List ℕ} (a : LaidFrom w n xs t out) where
  pub laid_next : (v : ℕ) (ys : List ℕ) → n < length t → ys ≡ xs ++ (v ∷ []) → LaidFrom w (n + 1) ys t (set out n v)
  laid_next v ys h e =
      record {
        count = rw (e, length-append) (omega (arith, a.count));
        held = ap (λ (l : List ℕ). set l n v) a.held ∙ put_next w n xs t v a.count h ∙ rw e;
      }

-- ---- a group of numbers below n

all_more : (m n : ℕ) (l : List ℕ) → m ≤ n → All (λ j. j < m) l → All (λ j. j < n) l
all_more m n [] h a = tt
all_more m n (j ∷ l) h a = let p : j < m = a.0 in (omega arith, all_more m n l h a.1)

pub all-below : (n : ℕ) → All (λ j. j < n) (up_to n)
unfolding tab
all-below zero = tt
all-below (suc n) = let h : n < suc n = omega arith in all_append (λ j. j < suc n) (up_to n) (n ∷ []) (all_more n (suc n) (up_to n) (omega arith) (all-below n)) (h, tt)

pub all-at : (P : ℕ → Type 0) (l : List ℕ) (k : ℕ) → All P l → k < length l → P (get_or l k 0)
all-at P [] k a h = absurd (not-suc-le-zero h)
all-at P (j ∷ l) zero a h = a.0
all-at P (j ∷ l) (suc k) a h = all-at P l k a.1 (le_of_suc-le-suc h)

pub kept-below : (p : ℕ → Bool) (n lo hi k : ℕ) (l : List ℕ) → slice lo hi l ≡ keep p (up_to n) → hi ≤ length l → lo ≤ k → k < hi → get_or l k 0 < n
kept-below p n lo hi k l e inside from h =
    let len : k - lo < length (slice lo hi l) = rw (length-slice lo hi l inside) (omega arith) in
    let b : All (λ j. j < n) (slice lo hi l) = rw e (all-kept (λ j. j < n) p (up_to n) (all-below n)) in
    let q : lo + (k - lo) ≡ k = omega arith in
    let g : get_or (slice lo hi l) (k - lo) 0 ≡ get_or l k 0 = get_or-drop lo (take hi l) (k - lo) 0 ∙ rw q (get_or-take hi l k 0 h) in
    rw g at (all-at (λ j. j < n) (slice lo hi l) (k - lo) b len)
