-- The keys that sort the symbols, and the group between the two places: the section's symbols.
use Rattle.std.specs.Prelude.{◌≡◌, Bool, true, false, cond, not, ℕ, zero, suc, ◌+◌, ◌<◌, ◌≤◌, eqb, ltb, take, drop}
use Rattle.std.proofs.Math.Path.{refl, sym}
use Rattle.std.proofs.Common.{ap, ◌∙◌, arith, eqb-true, eq-eqb, ne_eqb, ltb-true, ltb-false, take-add, drop-drop}
use Rattle.std.proofs.Math.Numerals.{one-add}
use Rattle.std.proofs.lemmas.Bool.{eqb-false}
use mathlib.Core.List.{List, [], ◌∷◌}
use Rattle.std.specs.List.{prefix_len}
use Rattle.object_view.specs.declared.View.{View}
use Rattle.lists.specs.Tests.{true-not-false}
use Rattle.model.specs.Bytes.{keep, before}
use Rattle.orders.specs.Sort.{by_key, key-order, sorted, Ordered, sorted-ordered}
use Rattle.records.specs.View.{symbol_at}
use Rattle.catalogue_laws.specs.Numbers.{up_to}
use Rattle.catalogue_laws.specs.ByNumber.{raw_section}
use Rattle.catalogue_laws.specs.SectionsPrograms.{All}
use Rattle.catalogue_laws.specs.Shared.{Climbs}
use Rattle.catalogue_laws.specs.FunctionsMaps.{all_append}
use Rattle.catalogue_laws.specs.SortedGroups.{by_section}
use Rattle.object.specs.View.{symbol_from, symbol_in}
use Rattle.record_keys.specs.declared.By.{By}
use Rattle.record_keys.specs.Keys.{key_of}
use Rattle.symbol_groups.specs.Cut.{raw-is}

module _ (d t : List ℕ) (v : View) where
  address_is : (j : ℕ) → (symbol_at d t v j).address ≡ (symbol_in d t v j).address
  unfolding symbol_from
  address_is j = refl

  section-keys : key_of By.SymbolSection d t v ≡ (λ j. raw_section (symbol_in d t v j) ∷ [])
  unfolding key_of
  section-keys = λ k j. sym (raw-is d t v (symbol_at d t v j)) k ∷ []

  pub place-keys : key_of By.SymbolAddress d t v ≡ (λ j. raw_section (symbol_in d t v j) ∷ (symbol_in d t v j).address ∷ [])
  unfolding key_of
  place-keys = λ k j. sym (raw-is d t v (symbol_at d t v j)) k ∷ address_is j k ∷ []

  -- all numbers, counted up and sorted
  pub section-order : (l m : List ℕ) → l ≡ up_to v.symbols → m ≡ sorted (by_key (key_of By.SymbolSection d t v)) l → m ≡ sorted (by_section (symbol_in d t v)) (up_to v.symbols)
  section-order l m p q = q ∙ (λ k. sorted (by_key (section-keys k)) (p k))

-- ---- numbers that climb

abbrev FirstFrom : (ℕ → ℕ) → ℕ → List ℕ → Type 0
FirstFrom key n [] = Unit {0}
FirstFrom key n (x ∷ l) = n ≤ key x

ordered-climbs : (key : ℕ → ℕ) (le : ℕ → ℕ → Bool) → ((a b : ℕ) → le a b ≡ true → key a ≤ key b) → (n : ℕ) (l : List ℕ) → FirstFrom key n l → Ordered le l → Climbs key n l
unfolding Ordered
ordered-climbs key le imp n [] f o = tt
ordered-climbs key le imp n (x ∷ []) f o = (f, tt)
ordered-climbs key le imp n (x ∷ y ∷ l) f o = (f, ordered-climbs key le imp (key x) (y ∷ l) (imp x y o.0) o.1)

first-from-0 : (key : ℕ → ℕ) (l : List ℕ) → FirstFrom key 0 l
first-from-0 key [] = tt
first-from-0 key (x ∷ l) = omega arith

number-le : (x y : ℕ) → not (before (y ∷ []) (x ∷ [])) ≡ true → x ≤ y
unfolding before
number-le x y e = go (eqb y x) (ltb y x) refl refl e
  where
    go : (b c : Bool) → eqb y x ≡ b → ltb y x ≡ c → not (cond b false c) ≡ true → x ≤ y
    go true c p q r = let f : y ≡ x = eqb-true y x p in omega arith
    go false true p q r = true-not-false (sym r)
    go false false p q r = ltb-false y x q

-- all symbols sorted by section
pub section-climbs : (d t : List ℕ) (v : View) (l : List ℕ) → l ≡ sorted (by_section (symbol_in d t v)) (up_to v.symbols) → Climbs (λ j. (symbol_at d t v j).section.0) 0 l
section-climbs d t v l e =
    let le = by_section (symbol_in d t v) in
    let o : Ordered le l = rw e (sorted-ordered le (key-order (λ j. raw_section (symbol_in d t v j) ∷ [])) (up_to v.symbols)) in
    ordered-climbs (λ j. (symbol_at d t v j).section.0) le
    (λ a b q. rw (raw-is d t v (symbol_at d t v a), raw-is d t v (symbol_at d t v b)) at (number-le (raw_section (symbol_in d t v a)) (raw_section (symbol_in d t v b)) q))
    0 l (first-from-0 (λ j. (symbol_at d t v j).section.0) l) o

-- ---- the group

all_map : (P Q : ℕ → Type 0) (l : List ℕ) → ((j : ℕ) → P j → Q j) → All P l → All Q l
all_map P Q [] f a = tt
all_map P Q (x ∷ l) f a = (f x a.0, all_map P Q l f a.1)

-- two parts that follow each other
all_joined : (P : ℕ → Type 0) (m n : ℕ) (l : List ℕ) → All P (take m l) → All P (take n (drop m l)) → All P (take (m + n) l)
all_joined P m n l a b = rw take-add (all_append P (take m l) (take n (drop m l)) a b)

all_passing : (P : ℕ → Type 0) (p : ℕ → Bool) (l : List ℕ) → ((j : ℕ) → p j ≡ true → P j) → All P (take (prefix_len p l) l)
all_passing P p [] f = tt
all_passing P p (x ∷ l) f = go (p x) refl (all_passing P p l f)
  where
    go : (b : Bool) → p x ≡ b → All P (take (prefix_len p l) l) → All P (take (cond b (1 + prefix_len p l) 0) (x ∷ l))
    go true e r = rw one-add (f x e, r)
    go false e r = tt

module _ (key : ℕ → ℕ) (k : ℕ) where
  abbrev pub below : ℕ → Bool
  below j = ltb (key j) k

  abbrev pub at : ℕ → Bool
  at j = eqb (key j) k

  abbrev kept : List ℕ → List ℕ
  kept l = keep (λ j. eqb k (key j)) l

  -- none is kept of those below k, nor of those that climb from above k
  kept_below : (from : ℕ) (l : List ℕ) → All (λ j. key j < k) (take from l) → kept l ≡ kept (drop from l)
  unfolding keep
  kept_below zero l a = refl
  kept_below (suc from) [] a = refl
  kept_below (suc from) (x ∷ l) a = let p : key x < k = a.0 in rw (ne_eqb k (key x) (omega arith)) (kept_below from l a.1)

  kept_above : (n : ℕ) (l : List ℕ) → Climbs key n l → k < n → kept l ≡ []
  unfolding keep
  kept_above n [] c h = refl
  kept_above n (x ∷ l) c h = let p : n ≤ key x = c.0 in rw (ne_eqb k (key x) (omega arith)) (kept_above (key x) l c.1 (omega arith))

  -- of those that climb from k on
  kept_at : (l : List ℕ) → Climbs key k l → kept l ≡ take (prefix_len at l) l
  unfolding keep
  kept_at [] c = refl
  kept_at (x ∷ l) c = go (eqb (key x) k) refl (kept_at l)
    where
      go : (b : Bool) → eqb (key x) k ≡ b → (Climbs key k l → kept l ≡ take (prefix_len at l) l) → kept (x ∷ l) ≡ take (cond b (1 + prefix_len at l) 0) (x ∷ l)
      go true e r =
          let q : key x ≡ k = eqb-true (key x) k e in
          rw (eq-eqb k (key x) (sym q)) (rw one-add (ap (λ m. x ∷ m) (r (rw q at c.1))))
      go false e r =
          let q : key x ≡ k → ⊥ = eqb-false (key x) k e in
          let p : k ≤ key x = c.0 in
          rw (ne_eqb k (key x) (omega arith)) (kept_above (key x) l c.1 (omega arith))

  -- of all that climb: those behind what is below k
  kept_group : (n : ℕ) (l : List ℕ) → Climbs key n l → kept l ≡ take (prefix_len at (drop (prefix_len below l) l)) (drop (prefix_len below l) l)
  unfolding keep
  kept_group n [] c = refl
  kept_group n (x ∷ l) c = go (ltb (key x) k) refl (kept_group (key x) l c.1)
    where
      go : (b : Bool) → ltb (key x) k ≡ b → kept l ≡ take (prefix_len at (drop (prefix_len below l) l)) (drop (prefix_len below l) l)
          → kept (x ∷ l) ≡ take (prefix_len at (drop (cond b (1 + prefix_len below l) 0) (x ∷ l))) (drop (cond b (1 + prefix_len below l) 0) (x ∷ l))
      go true e r = let p : key x < k = ltb-true (key x) k e in rw (ne_eqb k (key x) (omega arith)) (rw one-add r)
      go false e r = let p : k ≤ key x = ltb-false (key x) k e in kept_at (x ∷ l) (p, c.1)

  climbs_on : (m n : ℕ) (l : List ℕ) → m ≤ n → Climbs key n l → Climbs key m l
  climbs_on m n [] h c = tt
  climbs_on m n (x ∷ l) h c = let p : n ≤ key x = c.0 in (omega arith, c.1)

  climbs_rest : (from n : ℕ) (l : List ℕ) → Climbs key n l → Climbs key 0 (drop from l)
  climbs_rest zero n l c = climbs_on 0 n l (omega arith) c
  climbs_rest (suc from) n [] c = tt
  climbs_rest (suc from) n (x ∷ l) c = climbs_rest from (key x) l c.1

  -- what lies in sections below k is passed
  module _ (l : List ℕ) (from : ℕ) (passed : All (λ j. key j < k) (take from l)) where
    front : All (λ j. key j < k) (take (from + prefix_len below (drop from l)) l)
    front = all_joined (λ j. key j < k) from (prefix_len below (drop from l)) l passed (all_passing (λ j. key j < k) below (drop from l) (λ j e. ltb-true (key j) k e))

    pub none-passed : (m : ℕ) → k ≤ m → All (λ j. key j < m) (take (from + prefix_len below (drop from l)) l)
    none-passed m h = all_map (λ j. key j < k) (λ j. key j < m) _ (λ j q. omega arith) front

    module _ (lo : ℕ) (start : lo ≡ from + prefix_len below (drop from l)) where
      pub the-group : Climbs key 0 l → kept l ≡ take (prefix_len at (drop lo l)) (drop lo l)
      the-group c =
          kept_below from l passed
          ∙ kept_group 0 (drop from l) (climbs_rest from 0 l c)
          ∙ rw (start, ← drop-drop (prefix_len below (drop from l)) from l)

      -- the group is passed too
      pub all-passed : (m : ℕ) → k < m → All (λ j. key j < m) (take (lo + prefix_len at (drop lo l)) l)
      all-passed m h =
          all_joined (λ j. key j < m) lo (prefix_len at (drop lo l)) l (rw start (none-passed m (omega arith)))
          (all_passing (λ j. key j < m) at (drop lo l) (λ j e. let q : key j ≡ k = eqb-true (key j) k e in omega arith))
