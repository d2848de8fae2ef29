-- The provisos of demand 3 as tests that compute, so that an object can be seen to meet them.
use Rattle.std.specs.Prelude.{◌≡◌, Bool, true, false, cond, ◌&&◌, ◌||◌, not, List, [], ◌∷◌, ℕ, ltb}
use Rattle.std.proofs.Common.{sym, ap, ◌∙◌, inl, inr, ltb-true}
use Rattle.std.proofs.lemmas.Bool.{not-true}
use Rattle.model.specs.declared.EbpfSectionKind.{EbpfSectionKind as Kind}
use Rattle.model.specs.Bytes.{same, ◌∈◌}
use Rattle.model.specs.Object.{Section, Symbol, Object}
use Rattle.model.specs.SectionKind.{is_kind, kind_of}
use Rattle.model.specs.Symbols.{symbols_of}
use Rattle.guarantees.specs.OptionsAndLists.{true-not-false, both_true, both_false}
use Rattle.guarantees.specs.TableLaws.{same_refl}
use Rattle.model.specs.Bytes.{AllBytes}
use Rattle.guarantees.specs.WordsOfDemand3.{Fair}
use Rattle.guarantees.specs.AcceptedObjects.{Rising, Stated}

-- a section of that name is among them
unfoldable pub is_named : List ℕ → List Section → Bool
is_named n [] = false
is_named n (t ∷ ss) = same n t.name || is_named n ss

-- 'no section name used twice'
unfoldable pub distinct : List Section → Bool
distinct [] = true
distinct (s ∷ ss) = not (is_named s.name ss) && distinct ss

-- 'no symbol of a `maps` section bearing a section's name'
unfoldable pub none_named : List Section → List Symbol → Bool
none_named ss [] = true
none_named ss (y ∷ ys) = not (is_named y.name ss) && none_named ss ys

unfoldable pub maps_free : Object → List Section → Bool
maps_free o [] = true
maps_free o (s ∷ ss) = cond (is_kind Kind.Maps (kind_of s)) (none_named o.sections (symbols_of o s)) true && maps_free o ss

unfoldable pub is_fair : Object → Bool
is_fair o = distinct o.sections && maps_free o o.sections

named-not : (n : List ℕ) (ss : List Section) (t : Section) → is_named n ss ≡ false → t ∈ ss → n ≡ t.name → ⊥
unfolding is_named
named-not n [] t e m q = m
named-not n (u ∷ ss) t e (inl r) q =
    true-not-false (sym (same_refl n) ∙ ap (same n) (q ∙ ap (λ x. x.name) r) ∙ (both_false (same n u.name) (is_named n ss) e).0)
named-not n (u ∷ ss) t e (inr m) q = named-not n ss t (both_false (same n u.name) (is_named n ss) e).1 m q

distinct-is : (ss : List Section) (s t : Section) → distinct ss ≡ true → s ∈ ss → t ∈ ss → s.name ≡ t.name → s.index ≡ t.index
unfolding distinct
distinct-is [] s t e m n q = absurd m
distinct-is (u ∷ ss) s t e (inl p) (inl r) q = ap (λ x. x.index) (p ∙ sym r)
distinct-is (u ∷ ss) s t e (inl p) (inr r) q =
    absurd (named-not u.name ss t (not-true _ (both_true (not (is_named u.name ss)) (distinct ss) e).0) r (ap (λ x. x.name) (sym p) ∙ q))
distinct-is (u ∷ ss) s t e (inr p) (inl r) q =
    absurd (named-not u.name ss s (not-true _ (both_true (not (is_named u.name ss)) (distinct ss) e).0) p (ap (λ x. x.name) (sym r) ∙ sym q))
distinct-is (u ∷ ss) s t e (inr p) (inr r) q = distinct-is ss s t (both_true (not (is_named u.name ss)) (distinct ss) e).1 p r q

none_named-is : (ss : List Section) (ys : List Symbol) (y : Symbol) (t : Section) → none_named ss ys ≡ true → y ∈ ys → t ∈ ss → y.name ≡ t.name → ⊥
unfolding none_named
none_named-is ss [] y t e m n q = m
none_named-is ss (z ∷ ys) y t e (inl p) n q =
    named-not z.name ss t (not-true _ (both_true (not (is_named z.name ss)) (none_named ss ys) e).0) n (ap (λ x. x.name) (sym p) ∙ q)
none_named-is ss (z ∷ ys) y t e (inr m) n q = none_named-is ss ys y t (both_true (not (is_named z.name ss)) (none_named ss ys) e).1 m n q

maps_free-is : (o : Object) (ss : List Section) (s : Section) → maps_free o ss ≡ true → s ∈ ss → kind_of s ≡ Kind.Maps → none_named o.sections (symbols_of o s) ≡ true
unfolding maps_free
maps_free-is o [] s e m k = absurd m
maps_free-is o (u ∷ ss) s e (inl p) k =
    let c : cond (is_kind Kind.Maps (kind_of u)) (none_named o.sections (symbols_of o u)) true ≡ true =
    (both_true (cond (is_kind Kind.Maps (kind_of u)) (none_named o.sections (symbols_of o u)) true) (maps_free o ss) e).0 in
    let d : cond (is_kind Kind.Maps (kind_of s)) (none_named o.sections (symbols_of o s)) true ≡ true = rw (← p) at c in
    rw k at d
maps_free-is o (u ∷ ss) s e (inr m) k =
    maps_free-is o ss s (both_true (cond (is_kind Kind.Maps (kind_of u)) (none_named o.sections (symbols_of o u)) true) (maps_free o ss) e).1 m k

pub fair-is : (o : Object) → is_fair o ≡ true → Fair o
unfolding is_fair
fair-is o e =
    let (p, q) = both_true (distinct o.sections) (maps_free o o.sections) e in
    record {
      names = λ s t m n. distinct-is o.sections s t p m n;
      maps = λ s t y m k n r. none_named-is o.sections (symbols_of o s) y t (maps_free-is o o.sections s q m k) n r;
    }

-- what number 2 makes sure of
unfoldable pub rising : ℕ → List Section → Bool
rising n [] = true
rising n (s ∷ ss) = ltb n s.index.0 && rising s.index.0 ss

unfoldable pub all_bytes : List ℕ → Bool
all_bytes [] = true
all_bytes (b ∷ d) = ltb b 256 && all_bytes d

unfoldable pub all_data : List Section → Bool
all_data [] = true
all_data (s ∷ ss) = all_bytes s.bytes && all_data ss

unfoldable pub is_stated : Object → Bool
is_stated o = rising 0 o.sections && all_data o.sections

rising-is : (n : ℕ) (ss : List Section) → rising n ss ≡ true → Rising n ss
unfolding rising
rising-is n [] e = tt
rising-is n (s ∷ ss) e = let (p, q) = both_true (ltb n s.index.0) (rising s.index.0 ss) e in (ltb-true _ _ p, rising-is s.index.0 ss q)

pub all_bytes-is : (d : List ℕ) → all_bytes d ≡ true → AllBytes d
unfolding all_bytes
all_bytes-is [] e = tt
all_bytes-is (b ∷ d) e = let (p, q) = both_true (ltb b 256) (all_bytes d) e in (ltb-true _ _ p, all_bytes-is d q)

all_data-is : (ss : List Section) (s : Section) → all_data ss ≡ true → s ∈ ss → AllBytes s.bytes
unfolding all_data
all_data-is [] s e m = absurd m
all_data-is (t ∷ ss) s e (inl p) = rw p (all_bytes-is t.bytes (both_true (all_bytes t.bytes) (all_data ss) e).0)
all_data-is (t ∷ ss) s e (inr m) = all_data-is ss s (both_true (all_bytes t.bytes) (all_data ss) e).1 m

pub stated-is : (o : Object) → is_stated o ≡ true → Stated o
unfolding is_stated
stated-is o e =
    let (p, q) = both_true (rising 0 o.sections) (all_data o.sections) e in
    record { rising = rising-is 0 o.sections p; bytes = λ s m. all_data-is o.sections s q m }
