-- The laws of the first section of a name: by its number, it is the section that the definition finds (`specs/Named.antt`).
use Rattle.std.proofs.Math.Path.{◌≡◌, refl, ap}
use Rattle.std.proofs.Common.{◌∙◌}
use Rattle.std.specs.Prelude.{Bool, List, [], ◌∷◌, map, None, Option, Some}
use Rattle.std.proofs.Math.Bool.{true, false, cond}
use Prim.Native.Nat.{ℕ, ◌<◌}
use Rattle.lists.specs.Tab.{tab}
use Rattle.object_view.specs.declared.View.{View}
use Rattle.model.specs.Bytes.{same, first_in, find, or_else, maybe}
use Rattle.model.specs.Object.{Section}
use Rattle.model.specs.Symbols.{first_named}
use Rattle.catalogue_laws.specs.Numbers.{up_to, tab-is-map}
use Rattle.object.specs.View.{section_in, object_in}
use Rattle.parse_first.specs.Named.{first_below, named_at, number_named}

find-map : {A : Type 0} (p : A → Bool) (s : ℕ → A) (l : List ℕ) → find p (map s l) ≡ maybe (find (λ i. p (s i)) l) None (λ i. Some (s i))
unfolding find first_in
find-map p s [] = refl
find-map {A} p s (j ∷ l) = go (p (s j)) (find-map p s l)
  where
    go : (b : Bool) → first_in (λ y. cond (p y) (Some y) None) (map s l) ≡ maybe (first_in (λ i. cond (p (s i)) (Some i) None) l) None (λ i. Some (s i))
        → or_else (cond b (Some (s j)) None) (first_in (λ y. cond (p y) (Some y) None) (map s l))
        ≡ maybe (or_else (cond b (Some j) None) (first_in (λ i. cond (p (s i)) (Some i) None) l)) None (λ i. Some (s i))
    go true h = refl
    go false h = h

-- ---- sections by name

module _ (d t : List ℕ) (v : View) (word : List ℕ) where
  pub number-named : first_named word (tab (section_in d t v) v.sections) ≡ maybe (number_named d t v word) None (λ i. Some (section_in d t v i))
  unfolding first_named number_named
  number-named =
      ap (find (λ s. same word s.name)) (tab-is-map (section_in d t v) v.sections)
      ∙ find-map (λ s. same word s.name) (section_in d t v) (up_to v.sections)

  -- what is made of that section
  pub made-of-named : {B : Type 0} (b : B) (f : Section → B)
      → maybe (first_named word (object_in d t v).sections) b f ≡ maybe (number_named d t v word) b (λ i. f (section_in d t v i))
  unfolding object_in
  made-of-named b f = ap (λ o. maybe o b f) number-named ∙ go (number_named d t v word)
    where
      go : (o : Option ℕ) → maybe (maybe o None (λ i. Some (section_in d t v i))) b f ≡ maybe o b (λ i. f (section_in d t v i))
      go None = refl
      go (Some i) = refl

  pub number-below : (i : ℕ) → number_named d t v word ≡ Some i → i < v.sections
  unfolding number_named
  number-below i e = first_below (named_at d t v word) v.sections i e
