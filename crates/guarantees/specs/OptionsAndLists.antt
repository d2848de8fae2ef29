-- Laws of options, tests and lists that the theorems cite: what an answer `None` or a test's value says, stores by place, and members.
use Rattle.std.specs.Prelude.{◌≡◌, ◌⊎◌, Bool, cond, ℕ, suc, ◌+◌, ◌-◌, ◌<◌, ◌≤◌, eqb, length, get_or, set, None, Option, Some}
use Rattle.std.proofs.Math.Path.{refl, ap}
use Rattle.std.proofs.Common.{sym, ◌∙◌, ⊎_elim, arith, eqb-true, length-set, get_or-set_same, get_or-set_other}
use Rattle.std.proofs.Math.Logic.{inl, inr}
use Rattle.std.proofs.Math.Bool.{true, false}
use mathlib.Core.List.{List, [], ◌∷◌, ◌++◌, map}
use Rattle.std.proofs.lemmas.Bool.{eqb-false}
use Rattle.std.proofs.lemmas.List.Edits.{sets}
pub use Rattle.lists.specs.Tests.{not_some, true-not-false, both_false, both_true}
use Rattle.model.specs.Bytes.{each, first_in, find, or_else, ◌∈◌}
use Rattle.model.specs.declared.SectionIndex.{SectionIndex}
use Rattle.model.specs.declared.SymbolIndex.{SymbolIndex}
use Rattle.model.specs.Refusals.{refuse}

-- ---- options and tests

pub or_else-none : {A : Type 0} (a b : Option A) → or_else a b ≡ None → (a ≡ None) × (b ≡ None)
or_else-none None b e = (refl, e)
or_else-none (Some x) b e = not_some x e

pub refuse-none : (b : Bool) (n : ℕ) (s : SectionIndex) (y : SymbolIndex) (e : ℕ) → refuse b n s y e ≡ None → b ≡ false
refuse-none true n s y e h = not_some _ h
refuse-none false n s y e h = refl

-- ---- a run of stores, byte by byte

module _ {A : Type 0} (z : A) where
  pub sets-out : (d l : List A) (a i : ℕ) → (i < a) ⊎ (a + length d ≤ i) → get_or (sets l a d) i z ≡ get_or l i z
  sets-out [] l a i h = refl
  sets-out (v ∷ d) l a i (inl h) = sets-out d (set l a v) (suc a) i (inl (omega arith)) ∙ get_or-set_other l a i v z (omega arith)
  sets-out (v ∷ d) l a i (inr h) = sets-out d (set l a v) (suc a) i (inr (omega arith)) ∙ get_or-set_other l a i v z (omega arith)

  pub sets-in : (d l : List A) (a i : ℕ) → a ≤ i → i < a + length d → i < length l → get_or (sets l a d) i z ≡ get_or d (i - a) z
  sets-in [] l a i p q h = let no : ⊥ = omega arith in absurd no
  sets-in (v ∷ d) l a i p q h = at (eqb i a) refl (λ lt. sets-in d (set l a v) (suc a) i lt (omega arith) (rw length-set h))
    where
      at : (b : Bool) → eqb i a ≡ b → (a < i → get_or (sets (set l a v) (suc a) d) i z ≡ get_or d (i - suc a) z)
          → get_or (sets (set l a v) (suc a) d) i z ≡ get_or (v ∷ d) (i - a) z
      at true e r =
          let k : i ≡ a = eqb-true i a e in
          let f : i - a ≡ 0 = omega arith in
          rw f (sets-out d (set l a v) (suc a) i (inl (omega arith)) ∙ rw k (get_or-set_same l a v z (omega arith)))
      at false e r =
          let k : (i ≡ a) → ⊥ = eqb-false i a e in
          let f : i - a ≡ suc (i - suc a) = omega arith in
          rw f (r (omega arith))

module _ {A B : Type 0} where
  pub map-ext : (f g : A → B) (l : List A) → ((x : A) → f x ≡ g x) → map f l ≡ map g l
  map-ext f g [] h = refl
  map-ext f g (x ∷ l) h = λ k. h x k ∷ map-ext f g l h k

  pub first_in-none : (f : A → Option B) (x : A) (l : List A) → first_in f l ≡ None → x ∈ l → f x ≡ None
  unfolding first_in
  first_in-none f x [] e m = absurd m
  first_in-none f x (y ∷ l) e (inl q) = ap f q ∙ (or_else-none (f y) (first_in f l) e).0
  first_in-none f x (y ∷ l) e (inr m) = first_in-none f x l (or_else-none (f y) (first_in f l) e).1 m

pub map-fixed : {A : Type 0} (f : A → A) (l : List A) → ((x : A) → f x ≡ x) → map f l ≡ l
map-fixed f [] h = refl
map-fixed f (x ∷ l) h = λ k. h x k ∷ map-fixed f l h k

-- ---- members

module _ {A : Type 0} where
  pub ++-∈ : (z : A) (l r : List A) → z ∈ (l ++ r) → (z ∈ l) ⊎ (z ∈ r)
  ++-∈ z [] r m = inr m
  ++-∈ z (x ∷ l) r (inl q) = inl (inl q)
  ++-∈ z (x ∷ l) r (inr m) = ⊎_elim (λ n. inl (inr n)) (λ n. inr n) (++-∈ z l r m)

  pub ∈-++-left : (z : A) (l r : List A) → z ∈ l → z ∈ (l ++ r)
  ∈-++-left z [] r m = absurd m
  ∈-++-left z (x ∷ l) r (inl q) = inl q
  ∈-++-left z (x ∷ l) r (inr m) = inr (∈-++-left z l r m)

  pub ∈-++-right : (z : A) (l r : List A) → z ∈ r → z ∈ (l ++ r)
  ∈-++-right z [] r m = m
  ∈-++-right z (x ∷ l) r m = inr (∈-++-right z l r m)

  -- what is found is a member that passes the test
  pub find-∈ : (p : A → Bool) (x : A) (l : List A) → find p l ≡ Some x → (x ∈ l) × (p x ≡ true)
  unfolding find first_in
  find-∈ p x [] e = not_some x (sym e)
  find-∈ p x (y ∷ l) e = go (p y) refl e (find-∈ p x l)
    where
      go : (b : Bool) → p y ≡ b → or_else (cond b (Some y) None) (find p l) ≡ Some x → (find p l ≡ Some x → (x ∈ l) × (p x ≡ true)) → (x ∈ (y ∷ l)) × (p x ≡ true)
      go true h e r = let q : x ≡ y = cc in (inl q, ap p q ∙ h)
      go false h e r = let (m, k) = r e in (inr m, k)

module _ {A B : Type 0} where
  pub map-∈ : (f : A → B) (z : B) (l : List A) → z ∈ map f l → (x : A) × (x ∈ l) × (z ≡ f x)
  map-∈ f z [] m = absurd m
  map-∈ f z (x ∷ l) (inl q) = (x, inl refl, q)
  map-∈ f z (x ∷ l) (inr m) = let (w, n, e) = map-∈ f z l m in (w, inr n, e)

  pub each-∈ : (f : A → List B) (z : B) (l : List A) → z ∈ each f l → (x : A) × (x ∈ l) × (z ∈ f x)
  unfolding each
  each-∈ f z [] m = absurd m
  each-∈ f z (x ∷ l) m = go (++-∈ z (f x) (each f l) m) (each-∈ f z l)
    where
      go : (z ∈ f x) ⊎ (z ∈ each f l) → (z ∈ each f l → (w : A) × (w ∈ l) × (z ∈ f w)) → (w : A) × (w ∈ (x ∷ l)) × (z ∈ f w)
      go (inl n) r = (x, inl refl, n)
      go (inr n) r = let (w, k, e) = r n in (w, inr k, e)

  pub ∈-each : (f : A → List B) (z : B) (x : A) (l : List A) → x ∈ l → z ∈ f x → z ∈ each f l
  unfolding each
  ∈-each f z x [] m n = absurd m
  ∈-each f z x (y ∷ l) (inl q) n = ∈-++-left z (f y) (each f l) (rw q at n)
  ∈-each f z x (y ∷ l) (inr m) n = ∈-++-right z (f y) (each f l) (∈-each f z x l m n)
