-- Where a section's symbols stand among all symbols sorted by section, and its defined text among those sorted by section and address: one group each.
use Rattle.std.specs.Prelude.{◌≡◌, true, false, cond, not, ltb, leb, take, drop, None, Option, Some}
use Rattle.std.proofs.Math.Path.{refl, sym, ap}
use Rattle.std.proofs.Common.{◌∙◌, arith, eqb-true, eq-eqb, ne_eqb, le-ltb, ltb-true, ltb-false, le-leb, take-append-drop}
use Rattle.std.proofs.Math.Bool.{Bool}
use mathlib.Core.List.{List, [], ◌∷◌, ◌++◌, append-nil}
use Prim.Native.Nat.{ℕ, zero, suc, ◌<◌, ◌≤◌}
use Rattle.std.proofs.lemmas.Bool.{lt-leb}
use Rattle.std.proofs.Math.Dec.{eqb}
use Rattle.std.proofs.Math.Seq.{slice}
use Rattle.model.specs.declared.SectionIndex.{SectionIndex}
use Rattle.model.specs.declared.Endianness.{Endianness}
use Rattle.model.specs.Bytes.{keep, maybe, before}
use Rattle.model.specs.Object.{Section, Symbol}
use Rattle.model.specs.Symbols.{lies_in}
use Rattle.orders.specs.Sort.{by_key, key-order, pick, insert, sorted}
use Rattle.catalogue_laws.specs.Numbers.{up_to, keep_append, keep-ext, keep-sorted}
use Rattle.catalogue_laws.specs.Sorted.{keep-of-sorted}
use Rattle.catalogue_laws.specs.Shared.{by_address}
use Rattle.catalogue_laws.specs.SectionsPrograms.{All, all_keep, all-kept}
use Rattle.catalogue_laws.specs.ByNumber.{raw_section, is_defined_text, members, text_members, text_order}
use Rattle.catalogue_laws.specs.FunctionsMaps.{all-sorted}

-- ---- a group

all-out : (p : ℕ → Bool) (l : List ℕ) → All (λ j. p j ≡ false) l → keep p l ≡ []
unfolding keep
all-out p [] a = refl
all-out p (j ∷ l) a = rw a.0 (all-out p l a.1)

all_in : (p : ℕ → Bool) (l : List ℕ) → All (λ j. p j ≡ true) l → keep p l ≡ l
unfolding keep
all_in p [] a = refl
all_in p (j ∷ l) a = rw a.0 (ap (λ m. j ∷ m) (all_in p l a.1))

take_less : {A : Type 0} (m n : ℕ) (l : List A) → m ≤ n → take m (take n l) ≡ take m l
take_less zero n l h = refl
take_less (suc m) zero l h = let no : ⊥ = omega arith in absurd no
take_less (suc m) (suc n) [] h = refl
take_less (suc m) (suc n) (x ∷ l) h = ap (λ t. x ∷ t) (take_less m n l (omega arith))

-- the numbers that pass a test stand together
pub group-is : (p : ℕ → Bool) (l : List ℕ) (lo hi : ℕ) → lo ≤ hi → All (λ j. p j ≡ false) (take lo l) → All (λ j. p j ≡ true) (slice lo hi l)
    → All (λ j. p j ≡ false) (drop hi l) → keep p l ≡ slice lo hi l
group-is p l lo hi h a b c =
    let front : take lo (take hi l) ≡ take lo l = take_less lo hi l h in
    let whole : take lo l ++ slice lo hi l ≡ take hi l = ap (λ f. f ++ slice lo hi l) (sym front) ∙ take-append-drop lo (take hi l) in
    ap (keep p) (sym (take-append-drop hi l))
    ∙ keep_append p (take hi l) (drop hi l)
    ∙ (λ k. keep p (sym whole k) ++ all-out p (drop hi l) c k)
    ∙ append-nil (keep p (take lo l ++ slice lo hi l))
    ∙ keep_append p (take lo l) (slice lo hi l)
    ∙ (λ k. all-out p (take lo l) a k ++ all_in p (slice lo hi l) b k)

-- ---- two orders that agree on a list sort it alike

module _ (P : ℕ → Type 0) (le le₂ : ℕ → ℕ → Bool) (agree : (a b : ℕ) → P a → P b → le a b ≡ le₂ a b) where
  insert-on : (x : ℕ) (l : List ℕ) → P x → All P l → insert le x l ≡ insert le₂ x l
  unfolding insert
  insert-on x [] h a = refl
  insert-on x (y ∷ l) h a = λ k. pick (agree x y h a.0 k) (x ∷ y ∷ l) (y ∷ insert-on x l h a.1 k)

  pub sorted-on : (l : List ℕ) → All P l → sorted le l ≡ sorted le₂ l
  unfolding sorted
  sorted-on [] a = refl
  sorted-on (x ∷ l) a = ap (insert le x) (sorted-on l a.1) ∙ insert-on x (sorted le₂ l) a.0 (all-sorted P le₂ l a.1)

-- ---- the two sorted lists of all symbols

one-before : (x y : ℕ) → before (x ∷ []) (y ∷ []) ≡ ltb x y
unfolding before
one-before x y = go (eqb x y) refl
  where
    go : (b : Bool) → eqb x y ≡ b → cond b false (ltb x y) ≡ ltb x y
    go true e = let q : x ≡ y = eqb-true x y e in sym (le-ltb x y (omega arith))
    go false e = refl

pair-before : (a x y : ℕ) → before (a ∷ x ∷ []) (a ∷ y ∷ []) ≡ before (x ∷ []) (y ∷ [])
unfolding before
pair-before a x y = rw (eq-eqb a a refl)

not-less : (x y : ℕ) → not (ltb y x) ≡ leb x y
not-less x y = go (ltb y x) refl
  where
    go : (b : Bool) → ltb y x ≡ b → not b ≡ leb x y
    go true e = let q : y < x = ltb-true y x e in sym (lt-leb x y q)
    go false e = let q : x ≤ y = ltb-false y x e in sym (le-leb x y q)

abbrev pub by_section : (ℕ → Symbol) → ℕ → ℕ → Bool
by_section at = by_key (λ j. raw_section (at j) ∷ [])

abbrev pub by_place : (ℕ → Symbol) → ℕ → ℕ → Bool
by_place at = by_key (λ j. raw_section (at j) ∷ (at j).address ∷ [])

module _ (e : Endianness) (ss : List Section) (at : ℕ → Symbol) (Y : ℕ) where
  lies-raw : (i : SectionIndex) (o : Option SectionIndex) → (i.0 ≡ 4294967295 → ⊥) → lies_in i o ≡ eqb i.0 (maybe o 4294967295 (λ k. k.0))
  lies-raw i None h = sym (ne_eqb i.0 4294967295 h)
  lies-raw i (Some k) h = refl

  -- the section's symbols, by the raw number
  pub members-raw : (s : Section) → (s.index.0 ≡ 4294967295 → ⊥) → keep (λ j. eqb s.index.0 (raw_section (at j))) (up_to Y) ≡ members e ss at Y s
  unfolding members
  members-raw s h = keep-ext _ _ (up_to Y) (λ j. sym (lies-raw s.index (at j).section h))

  same-section : (k i j : ℕ) → eqb k (raw_section (at i)) ≡ true → eqb k (raw_section (at j)) ≡ true → by_section at i j ≡ true
  same-section k i j p q =
      let u : k ≡ raw_section (at i) = eqb-true _ _ p in
      let v : k ≡ raw_section (at j) = eqb-true _ _ q in
      let l : ltb (raw_section (at j)) (raw_section (at i)) ≡ false = le-ltb (raw_section (at j)) (raw_section (at i)) (omega arith) in
      rw (one-before (raw_section (at j)) (raw_section (at i)), l)

  -- a group of the symbols sorted by section: those of one section, by index
  pub members-group : (s : Section) → (s.index.0 ≡ 4294967295 → ⊥)
      → keep (λ j. eqb s.index.0 (raw_section (at j))) (sorted (by_section at) (up_to Y)) ≡ members e ss at Y s
  members-group s h = keep-sorted (by_section at) (λ j. eqb s.index.0 (raw_section (at j))) (same-section s.index.0) (up_to Y) ∙ members-raw s h

  agree-place : (k i j : ℕ) → eqb k (raw_section (at i)) ≡ true → eqb k (raw_section (at j)) ≡ true → by_place at i j ≡ by_address (λ n. (at n).address) i j
  agree-place k i j p q =
      let u : k ≡ raw_section (at i) = eqb-true _ _ p in
      let v : k ≡ raw_section (at j) = eqb-true _ _ q in
      let w : raw_section (at j) ≡ raw_section (at i) = sym v ∙ u in
      ap not (ap (λ n. before (n ∷ (at j).address ∷ []) (raw_section (at i) ∷ (at i).address ∷ [])) w ∙ pair-before (raw_section (at i)) (at j).address (at i).address ∙ one-before (at j).address (at i).address)
      ∙ not-less (at i).address (at j).address

  -- a group of the symbols sorted by section and address: of one section's, the defined text in order of address
  pub text-group : (s : Section) → (s.index.0 ≡ 4294967295 → ⊥)
      → keep (λ j. is_defined_text (at j)) (keep (λ j. eqb s.index.0 (raw_section (at j))) (sorted (by_place at) (up_to Y))) ≡ text_order e ss at Y s
  unfolding text_order text_members
  text-group s h =
      let p : ℕ → Bool = λ j. eqb s.index.0 (raw_section (at j)) in
      let t : ℕ → Bool = λ j. is_defined_text (at j) in
      let o = key-order (λ j. raw_section (at j) ∷ (at j).address ∷ []) in
      let m = keep p (up_to Y) in
      ap (keep t) (keep-of-sorted (by_place at) o p (up_to Y))
      ∙ keep-of-sorted (by_place at) o t m
      ∙ sorted-on (λ j. p j ≡ true) (by_place at) (by_address (λ n. (at n).address)) (λ a b u v. agree-place s.index.0 a b u v) (keep t m)
      (all-kept (λ j. p j ≡ true) t m (all_keep (λ j. p j ≡ true) p (up_to Y) (λ j u. u)))
      ∙ ap (λ l. sorted (by_address (λ n. (at n).address)) (keep t l)) (members-raw s h)
