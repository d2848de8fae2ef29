-- Number 11 by a sorted list: of symbol numbers that rise, the first to repeat an address is the least that has the address of the one before it once they are
-- sorted by address.
use Rattle.std.specs.Prelude.{◌≡◌, Bool, ◌||◌, None, Option, Some}
use Rattle.std.proofs.Math.Path.{refl, sym, ap}
use Rattle.std.proofs.Common.{◌∙◌}
use Rattle.std.proofs.Math.Bool.{true, false, cond}
use mathlib.Core.List.{List, [], ◌∷◌, map}
use Prim.Native.Nat.{ℕ, suc, ◌<◌, ◌≤◌, min}
use native.Mathlib.Omega.{arith}
use borrow.Author.Tests.{eqb-true, eqb-false, eq-eqb, ne_eqb, leb-true, leb-false, le-leb}
use Rattle.std.proofs.Math.Dec.{eqb, leb}
use Rattle.model.specs.Bytes.{first_in, find, or_else, maybe, is_some}
use Rattle.model.specs.Object.{Section, Symbol}
use Rattle.model.specs.Refusals.{of_symbol, shared_refusal}
use Rattle.orders.specs.Sort.{pick, insert, sorted}
use Rattle.catalogue_laws.specs.Sorted.{find-sorted}

-- the lesser of two numbers, where there are any
abbrev pub earlier : Option ℕ → Option ℕ → Option ℕ
earlier None b = b
earlier (Some a) None = Some a
earlier (Some a) (Some b) = Some (min a b)

earlier-swap : (a b : Option ℕ) → earlier a b ≡ earlier b a
earlier-swap None None = refl
earlier-swap None (Some b) = refl
earlier-swap (Some a) None = refl
earlier-swap (Some a) (Some b) = ap Some (omega arith)

pub earlier-join : (a b c : Option ℕ) → earlier (earlier a b) c ≡ earlier a (earlier b c)
earlier-join None b c = refl
earlier-join (Some a) None c = refl
earlier-join (Some a) (Some b) None = refl
earlier-join (Some a) (Some b) (Some c) = ap Some (omega arith)

-- each number is above the one before, and above n
abbrev pub RisesFrom : ℕ → List ℕ → Type 0
RisesFrom n [] = Unit {0}
RisesFrom n (j ∷ l) = (n ≤ j) × RisesFrom (suc j) l

-- a number that is not below n, if it is one
abbrev From : ℕ → Option ℕ → Type 0
From n None = Unit {0}
From n (Some b) = n ≤ b

earlier-first : (j : ℕ) (b : Option ℕ) → From j b → earlier (Some j) b ≡ Some j
earlier-first j None h = refl
earlier-first j (Some b) h = ap Some (omega arith)

from_less : (m n : ℕ) (b : Option ℕ) → m ≤ n → From n b → From m b
from_less m n None h k = tt
from_less m n (Some b) h k = omega arith

module _ (addr : ℕ → ℕ) where
  -- the first that has the address of one before it, or one that was seen
  unfoldable pub repeat_in : List ℕ → List ℕ → Option ℕ
  repeat_in seen [] = None
  repeat_in seen (j ∷ l) = cond (is_some (find (eqb (addr j)) seen)) (Some j) (repeat_in (addr j ∷ seen) l)

  -- the first at the address a
  abbrev pub first_at : ℕ → List ℕ → Option ℕ
  first_at a l = find (λ j. eqb (addr j) a) l

  seen-cons : (a b : ℕ) (seen : List ℕ) → is_some (find (eqb a) (b ∷ seen)) ≡ (eqb a b || is_some (find (eqb a) seen))
  unfolding find first_in
  seen-cons a b seen = go (eqb a b)
    where
      go : (t : Bool) → is_some (or_else (cond t (Some b) None) (first_in (λ x. cond (eqb a x) (Some x) None) seen)) ≡ (t || is_some (first_in (λ x. cond (eqb a x) (Some x) None) seen))
      go true = refl
      go false = refl

  -- only what was seen counts
  repeat-same : (s t l : List ℕ) → ((a : ℕ) → is_some (find (eqb a) s) ≡ is_some (find (eqb a) t)) → repeat_in s l ≡ repeat_in t l
  unfolding repeat_in
  repeat-same s t [] h = refl
  repeat-same s t (j ∷ l) h =
      λ k. cond (h (addr j) k) (Some j) (repeat-same (addr j ∷ s) (addr j ∷ t) l (λ a. seen-cons a (addr j) s ∙ ap (λ b. eqb a (addr j) || b) (h a) ∙ sym (seen-cons a (addr j) t)) k)

  or_swap : (a b c : Bool) → (a || (b || c)) ≡ (b || (a || c))
  or_swap true true c = refl
  or_swap true false c = refl
  or_swap false true c = refl
  or_swap false false c = refl

  swap-seen : (x y : ℕ) (s l : List ℕ) → repeat_in (x ∷ y ∷ s) l ≡ repeat_in (y ∷ x ∷ s) l
  swap-seen x y s l =
      repeat-same (x ∷ y ∷ s) (y ∷ x ∷ s) l
      (λ a. seen-cons a x (y ∷ s) ∙ ap (λ b. eqb a x || b) (seen-cons a y s) ∙ or_swap (eqb a x) (eqb a y) (is_some (find (eqb a) s))
      ∙ sym (seen-cons a y (x ∷ s) ∙ ap (λ b. eqb a y || b) (seen-cons a x s)))

  repeat-from : (n : ℕ) (seen l : List ℕ) → RisesFrom n l → From n (repeat_in seen l)
  unfolding repeat_in
  repeat-from n seen [] h = tt
  repeat-from n seen (j ∷ l) h = go (is_some (find (eqb (addr j)) seen)) (from_less n (suc j) (repeat_in (addr j ∷ seen) l) (let p : n ≤ j = h.0 in omega arith) (repeat-from (suc j) (addr j ∷ seen) l h.1))
    where
      go : (b : Bool) → From n (repeat_in (addr j ∷ seen) l) → From n (cond b (Some j) (repeat_in (addr j ∷ seen) l))
      go true r = h.0
      go false r = r

  first-from : (n a : ℕ) (l : List ℕ) → RisesFrom n l → From n (first_at a l)
  unfolding find first_in
  first-from n a [] h = tt
  first-from n a (j ∷ l) h = go (eqb (addr j) a) (from_less n (suc j) (first_at a l) (let p : n ≤ j = h.0 in omega arith) (first-from (suc j) a l h.1))
    where
      go : (b : Bool) → From n (first_in (λ x. cond (eqb (addr x) a) (Some x) None) l)
          → From n (or_else (cond b (Some j) None) (first_in (λ x. cond (eqb (addr x) a) (Some x) None) l))
      go true r = h.0
      go false r = r

  -- one address more was seen
  repeat-more : (n a : ℕ) (seen l : List ℕ) → RisesFrom n l → repeat_in (a ∷ seen) l ≡ earlier (repeat_in seen l) (first_at a l)
  unfolding repeat_in find first_in
  repeat-more n a seen [] h = refl
  repeat-more n a seen (j ∷ l) h =
      rw (seen-cons (addr j) a seen)
      (go (eqb (addr j) a) (is_some (find (eqb (addr j)) seen)) (swap-seen (addr j) a seen l ∙ repeat-more (suc j) a (addr j ∷ seen) l h.1))
    where
      above : (b : Option ℕ) → From (suc j) b → earlier (Some j) b ≡ Some j
      above b k = earlier-first j b (from_less j (suc j) b (omega arith) k)

      go : (b c : Bool) → repeat_in (addr j ∷ a ∷ seen) l ≡ earlier (repeat_in (addr j ∷ seen) l) (first_at a l)
          → cond (b || c) (Some j) (repeat_in (addr j ∷ a ∷ seen) l)
          ≡ earlier (cond c (Some j) (repeat_in (addr j ∷ seen) l)) (or_else (cond b (Some j) None) (first_in (λ x. cond (eqb (addr x) a) (Some x) None) l))
      go true true r = ap Some (omega arith)
      go true false r = sym (earlier-swap (repeat_in (addr j ∷ seen) l) (Some j) ∙ above (repeat_in (addr j ∷ seen) l) (repeat-from (suc j) (addr j ∷ seen) l h.1))
      go false true r = sym (above (first_at a l) (first-from (suc j) a l h.1))
      go false false r = r

  -- ---- the sorted list

  abbrev pub by_address : ℕ → ℕ → Bool
  by_address i j = leb (addr i) (addr j)

  -- the least that has the address of the one before it
  unfoldable pub least_again : List ℕ → Option ℕ
  least_again [] = None
  least_again (a ∷ []) = None
  least_again (a ∷ b ∷ l) = earlier (cond (eqb (addr a) (addr b)) (Some b) None) (least_again (b ∷ l))

  -- each is at or behind the one before, and at or behind n
  abbrev pub Climbs : ℕ → List ℕ → Type 0
  Climbs n [] = Unit {0}
  Climbs n (j ∷ l) = (n ≤ addr j) × Climbs (addr j) l

  pub none_below : (a n : ℕ) (l : List ℕ) → Climbs n l → a < n → first_at a l ≡ None
  unfolding find first_in
  none_below a n [] h k = refl
  none_below a n (j ∷ l) h k =
      let p : n ≤ addr j = h.0 in let e : eqb (addr j) a ≡ false = ne_eqb (addr j) a (omega arith) in rw e (none_below a (addr j) l h.1 (omega arith))

  insert-climbs : (n x : ℕ) (l : List ℕ) → n ≤ addr x → Climbs n l → Climbs n (insert by_address x l)
  unfolding insert
  insert-climbs n x [] k h = (k, tt)
  insert-climbs n x (y ∷ l) k h = go (leb (addr x) (addr y)) refl (insert-climbs (addr y) x l)
    where
      go : (b : Bool) → leb (addr x) (addr y) ≡ b → (addr y ≤ addr x → Climbs (addr y) l → Climbs (addr y) (insert by_address x l))
          → Climbs n (pick b (x ∷ y ∷ l) (y ∷ insert by_address x l))
      go true e r = (k, (leb-true _ _ e, h.1))
      go false e r = let p : addr y < addr x = leb-false _ _ e in (h.0, r (omega arith) h.1)

  pub sorted-climbs : (l : List ℕ) → Climbs 0 (sorted by_address l)
  unfolding sorted
  sorted-climbs [] = tt
  sorted-climbs (x ∷ l) = insert-climbs 0 x (sorted by_address l) (omega arith) (sorted-climbs l)

  -- one number more among those that climb: the first at its address, if there is one, is now again there
  again-insert : (n x : ℕ) (l : List ℕ) → Climbs n l → least_again (insert by_address x l) ≡ earlier (least_again l) (first_at (addr x) l)
  unfolding least_again insert find first_in
  again-insert n x [] h = refl
  again-insert n x (y ∷ []) h = go (leb (addr x) (addr y)) (eqb (addr y) (addr x)) refl refl
    where
      go : (b c : Bool) → leb (addr x) (addr y) ≡ b → eqb (addr y) (addr x) ≡ c
          → least_again (pick b (x ∷ y ∷ []) (y ∷ x ∷ [])) ≡ or_else (cond c (Some y) None) None
      go true true e f = let q : addr y ≡ addr x = eqb-true _ _ f in rw (eq-eqb (addr x) (addr y) (sym q))
      go true false e f = let q : (addr y ≡ addr x) → ⊥ = eqb-false _ _ f in rw (ne_eqb (addr x) (addr y) (λ r. q (sym r)))
      go false true e f = let q : addr y ≡ addr x = eqb-true _ _ f in let p : addr y < addr x = leb-false _ _ e in let no : ⊥ = omega arith in absurd no
      go false false e f = let q : (addr y ≡ addr x) → ⊥ = eqb-false _ _ f in rw (ne_eqb (addr y) (addr x) q)
  again-insert n x (y ∷ z ∷ l) h = go (leb (addr x) (addr y)) refl (again-insert (addr y) x (z ∷ l) h.1)
    where
      rest : Option ℕ
      rest = first_in (λ j. cond (eqb (addr j) (addr x)) (Some j) None) (z ∷ l)

      -- x stands before y
      front : (c : Bool) → eqb (addr y) (addr x) ≡ c → addr x ≤ addr y
          → earlier (cond (eqb (addr x) (addr y)) (Some y) None) (least_again (y ∷ z ∷ l)) ≡ earlier (least_again (y ∷ z ∷ l)) (or_else (cond c (Some y) None) rest)
      front true e k = let q : addr y ≡ addr x = eqb-true _ _ e in rw (eq-eqb (addr x) (addr y) (sym q)) (earlier-swap (Some y) (least_again (y ∷ z ∷ l)))
      front false e k =
          let q : (addr y ≡ addr x) → ⊥ = eqb-false _ _ e in
          let f : eqb (addr x) (addr y) ≡ false = ne_eqb (addr x) (addr y) (λ r. q (sym r)) in
          let g : rest ≡ None = none_below (addr x) (addr y) (z ∷ l) h.1 (omega arith) in
          rw (f, g) (sym (earlier-swap (least_again (y ∷ z ∷ l)) None))

      -- y stays in front: what follows it is x or z
      behind : (b : Bool) → leb (addr x) (addr z) ≡ b → addr y < addr x
          → least_again (pick b (x ∷ z ∷ l) (z ∷ insert by_address x l)) ≡ earlier (least_again (z ∷ l)) rest
          → least_again (y ∷ pick b (x ∷ z ∷ l) (z ∷ insert by_address x l)) ≡ earlier (least_again (y ∷ z ∷ l)) rest
      behind true e k r =
          let p : addr x ≤ addr z = leb-true _ _ e in
          let f : eqb (addr y) (addr x) ≡ false = ne_eqb (addr y) (addr x) (omega arith) in
          let g : eqb (addr y) (addr z) ≡ false = ne_eqb (addr y) (addr z) (omega arith) in
          rw (f, g) r
      behind false e k r =
          ap (earlier (cond (eqb (addr y) (addr z)) (Some z) None)) r ∙ sym (earlier-join (cond (eqb (addr y) (addr z)) (Some z) None) (least_again (z ∷ l)) rest)

      go : (b : Bool) → leb (addr x) (addr y) ≡ b → least_again (insert by_address x (z ∷ l)) ≡ earlier (least_again (z ∷ l)) rest
          → least_again (pick b (x ∷ y ∷ z ∷ l) (y ∷ insert by_address x (z ∷ l))) ≡ earlier (least_again (y ∷ z ∷ l)) (or_else (cond (eqb (addr y) (addr x)) (Some y) None) rest)
      go true e r = front (eqb (addr y) (addr x)) refl (leb-true _ _ e)
      go false e r =
          let k : addr y < addr x = leb-false _ _ e in
          let f : eqb (addr y) (addr x) ≡ false = ne_eqb (addr y) (addr x) (omega arith) in
          rw f (behind (leb (addr x) (addr z)) refl k r)

  pub alike : (a i j : ℕ) → eqb (addr i) a ≡ true → eqb (addr j) a ≡ true → by_address i j ≡ true
  alike a i j p q = let u : addr i ≡ a = eqb-true _ _ p in let v : addr j ≡ a = eqb-true _ _ q in le-leb (addr i) (addr j) (omega arith)

  pub repeat-sorted : (n : ℕ) (l : List ℕ) → RisesFrom n l → repeat_in [] l ≡ least_again (sorted by_address l)
  unfolding repeat_in least_again sorted find first_in
  repeat-sorted n [] h = refl
  repeat-sorted n (x ∷ l) h =
      repeat-more (suc x) (addr x) [] l h.1
      ∙ (λ k. earlier (repeat-sorted (suc x) l h.1 k) (sym (find-sorted by_address (λ j. eqb (addr j) (addr x)) (alike (addr x)) l) k))
      ∙ sym (again-insert 0 x (sorted by_address l) (sorted-climbs l))

-- number 11 on the symbols that numbers stand for
pub shared-is : (s : Section) (sym : ℕ → Symbol) (seen l : List ℕ)
    → shared_refusal s seen (map sym l) ≡ maybe (repeat_in (λ j. (sym j).address) seen l) None (λ j. of_symbol 11 s (sym j) true)
unfolding shared_refusal repeat_in
shared-is s sym seen [] = refl
shared-is s sym seen (j ∷ l) = go (is_some (find (eqb (sym j).address) seen)) (shared-is s sym ((sym j).address ∷ seen) l)
  where
    go : (b : Bool)
        → shared_refusal s ((sym j).address ∷ seen) (map sym l) ≡ maybe (repeat_in (λ i. (sym i).address) ((sym j).address ∷ seen) l) None (λ i. of_symbol 11 s (sym i) true)
        → or_else (of_symbol 11 s (sym j) b) (shared_refusal s ((sym j).address ∷ seen) (map sym l))
        ≡ maybe (cond b (Some j) (repeat_in (λ i. (sym i).address) ((sym j).address ∷ seen) l)) None (λ i. of_symbol 11 s (sym i) true)
    go true h = refl
    go false h = h
