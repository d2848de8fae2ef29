-- For each section the place of its first map in a table of map numbers.
use Rattle.std.specs.Prelude.{◌≡◌, Bool, true, false, cond, List, [], ◌∷◌, ◌++◌, map, ℕ, suc, ◌+◌, ◌<◌, eqb, length, get_or, drop, set}
use Rattle.std.proofs.Math.Path.{refl, ap}
use Rattle.std.proofs.Common.{sym, ◌∙◌, add-one, eqb-true, length-set, drop_of_length-le, le_refl, get_or-set_same, get_or-set_other}
use Rattle.std.proofs.lemmas.Bool.{eqb-false}
use Rattle.std.proofs.Math.Seq.{drop-cons}
use Rattle.std.proofs.lemmas.List.{set-append_left}
use Rattle.lists.specs.Tab.{tab, length-tab, get_or-tab, tab-ext, is-tab}
use Rattle.object_view.specs.declared.View.{View}
use Rattle.records.specs.declared.MapSource.{MapSource}
use Rattle.records.specs.Maps.{map_source_of}
use Rattle.catalogue_numbers.specs.Numbers.{home_at}
use Rattle.catalogue_numbers.specs.Fits.{SourceFits, MapFits}

-- one more than the place of the first i, counted from k on; 0 where there is none
unfoldable pub first_place_from : ℕ → ℕ → List ℕ → ℕ
first_place_from k i [] = 0
first_place_from k i (j ∷ js) = cond (eqb j i) (suc k) (first_place_from (suc k) i js)

set-tab : (f : ℕ → ℕ) (n j v : ℕ) (r : List ℕ) → j < n → set (tab f n ++ r) j v ≡ tab (λ i. cond (eqb j i) v (f i)) n ++ r
set-tab f n j v r h =
    let l : j < length (tab f n) = rw length-tab h in
    set-append_left (tab f n) r j v l
    ∙ ap (λ t. t ++ r) (is-tab (set (tab f n) j v) (λ i. cond (eqb j i) v (f i)) n 0 (length-set (tab f n) j v ∙ length-tab f n) (λ i m. at i m (eqb j i) refl))
  where
    at : (i : ℕ) → i < n → (b : Bool) → eqb j i ≡ b → get_or (set (tab f n) j v) i 0 ≡ cond b v (f i)
    at i m true e =
        let q : j ≡ i = eqb-true j i e in
        let l : i < length (tab f n) = rw length-tab m in
        rw q (get_or-set_same (tab f n) i v 0 l)
    at i m false e = get_or-set_other (tab f n) j i v 0 (λ q. eqb-false j i e (sym q)) ∙ get_or-tab f n i 0 m

module _ (d t : List ℕ) (v : View) where
  abbrev pub source_home : MapSource → ℕ
  source_home (MapSource.Section i) = i
  source_home (MapSource.Symbol j) = home_at d t v j

  -- the section that a map is made from, by number
  unfoldable pub map_home : ℕ → ℕ
  map_home n = source_home (map_source_of v.sections n)

  pub home_below : (n : ℕ) → MapFits d t v n → map_home n < v.sections
  unfolding map_home
  home_below n f = go (map_source_of v.sections n) f
    where
      go : (s : MapSource) → SourceFits d t v s → source_home s < v.sections
      go (MapSource.Section i) g = g
      go (MapSource.Symbol j) g = g.home

  -- for each section one more than the place of its first map, or 0
  unfoldable pub map_places : List ℕ → List ℕ
  map_places ns = tab (λ i. first_place_from 0 i (map map_home ns)) v.sections

  -- the same of the maps from place k on
  module _ (maps : List ℕ) where
    unfoldable pub places_from : ℕ → List ℕ
    places_from k = tab (λ i. first_place_from k i (map map_home (drop k maps))) v.sections

    pub places-none : places_from (length maps) ≡ tab (λ i. 0) v.sections
    unfolding places_from first_place_from
    places-none = rw (drop_of_length-le maps (le_refl (length maps)))

    pub places-more : (k : ℕ) (r : List ℕ) → k < length maps → map_home (get_or maps k 0) < v.sections
        → set (places_from (k + 1) ++ r) (map_home (get_or maps k 0)) (k + 1) ≡ places_from k ++ r
    unfolding places_from first_place_from
    places-more k r l b =
        set-tab (λ i. first_place_from (k + 1) i (map map_home (drop (k + 1) maps))) v.sections (map_home (get_or maps k 0)) (k + 1) r b
        ∙ ap (λ t. t ++ r) (tab-ext _ _ v.sections (λ i q. rw (drop-cons maps k 0 l, add-one)))
