-- The map of a symbol's section, found by its place.
use Rattle.std.specs.Prelude.{◌≡◌, Bool, ◌⊎◌, length, take, None, Option, Some}
use Rattle.std.proofs.Math.Path.{refl, sym, ap}
use Rattle.std.proofs.Common.{◌∙◌, take_at, get_or-take}
use Rattle.std.proofs.Math.Bool.{true, false, cond}
use mathlib.Core.List.{List, [], ◌∷◌, ◌++◌, map}
use Rattle.std.proofs.Math.Logic.{inl, inr, ⊎_elim}
use Prim.Native.Nat.{ℕ, zero, suc, ◌+◌, ◌-◌, ◌<◌}
use native.Mathlib.Omega.{arith}
use borrow.Author.Tests.{eq-eqb, ne_eqb, eqb-true, eqb-false}
use Rattle.std.proofs.Math.Dec.{eqb}
use Rattle.std.proofs.Math.ListN.{get_or}
use Rattle.lists.specs.Tab.{tab, length-tab, get_or-tab}
use Rattle.lists.specs.Tests.{not_some}
use Rattle.object_view.specs.declared.View.{View}
use Rattle.model.specs.declared.SectionIndex.{SectionIndex}
use Rattle.model.specs.declared.SymbolRecord.{SymbolRecord}
use Rattle.model.specs.Bytes.{first_in, find, or_else, maybe}
use Rattle.model.specs.Catalogue.{Map}
use Rattle.model.specs.Contents.{legacy_map, data_map}
use Rattle.model.specs.Deposit.{unless_none}
use Rattle.model.specs.Symbols.{lies_in}
use Rattle.catalogue_laws.specs.Numbers.{up_to}
use Rattle.catalogue_laws.specs.FunctionsMaps.{map_of}
use Rattle.catalogue_laws.specs.SectionsPrograms.{All, owner, owner-is, find-append}
use Rattle.object.specs.View.{section_in, symbol_in, symbol_from, rising}
use Rattle.catalogue_numbers.specs.Numbers.{map_at}
use Rattle.catalogue_numbers.specs.Fits.{MapFits}
use Rattle.symbol_section.specs.Owner.{owner_in}
use Rattle.records.specs.declared.MapSource.{MapSource}
use Rattle.records.specs.Maps.{map_source_of}
use Rattle.records.specs.Readable.{Readable}
use Rattle.patch_maps.specs.Places.{first_place_from, source_home, map_home, home_below, map_places}

-- ---- the first of a list, by its place

module _ (f : ℕ → ℕ) (i : ℕ) where
  abbrev at : ℕ → Bool
  at n = eqb (f n) i

  place_none : (k : ℕ) (ns : List ℕ) → first_place_from k i (map f ns) ≡ 0 → find at ns ≡ None
  unfolding first_place_from find first_in
  place_none k [] e = refl
  place_none k (n ∷ ns) e = go (eqb (f n) i) e (place_none (suc k) ns)
    where
      go : (b : Bool) → cond b (suc k) (first_place_from (suc k) i (map f ns)) ≡ 0 → (first_place_from (suc k) i (map f ns) ≡ 0 → find at ns ≡ None)
          → or_else (cond b (Some n) None) (find at ns) ≡ None
      go true q r = let no : ⊥ = omega arith in absurd no
      go false q r = r q

  place-past : (k : ℕ) (js : List ℕ) → (first_place_from k i js ≡ 0) ⊎ (k < first_place_from k i js)
  unfolding first_place_from
  place-past k [] = inl refl
  place-past k (j ∷ js) = go (eqb j i) (place-past (suc k) js)
    where
      go : (b : Bool) → (first_place_from (suc k) i js ≡ 0) ⊎ (suc k < first_place_from (suc k) i js)
          → (cond b (suc k) (first_place_from (suc k) i js) ≡ 0) ⊎ (k < cond b (suc k) (first_place_from (suc k) i js))
      go true r = inr (omega arith)
      go false (inl q) = inl q
      go false (inr q) = inr (omega arith)

  -- what stands at the place of the first
  pub record Here (ns : List ℕ) (q : ℕ) : Type 0 where
    pub within : q < length ns
    pub home : f (get_or ns q 0) ≡ i
    pub first : find at ns ≡ Some (get_or ns q 0)

  place-some : (k q : ℕ) (ns : List ℕ) → first_place_from k i (map f ns) ≡ suc (k + q) → Here ns q
  unfolding first_place_from find first_in
  place-some k q [] e = let no : ⊥ = omega arith in absurd no
  place-some k q (n ∷ ns) e = go (eqb (f n) i) refl q e (λ r. place-some (suc k) r ns)
    where
      go : (b : Bool) → eqb (f n) i ≡ b → (q : ℕ) → cond b (suc k) (first_place_from (suc k) i (map f ns)) ≡ suc (k + q)
          → ((r : ℕ) → first_place_from (suc k) i (map f ns) ≡ suc (suc k + r) → Here ns r) → Here (n ∷ ns) q
      go true t zero g r = record { within = omega arith; home = eqb-true (f n) i t; first = rw t }
      go true t (suc q) g r = let no : ⊥ = omega arith in absurd no
      go false t zero g r = let no : ⊥ = ⊎_elim (λ a. omega arith) (λ a. omega arith) (place-past (suc k) (map f ns)) in absurd no
      go false t (suc q) g r =
          let w = r q (g ∙ omega arith) in
          record { within = omega (arith, w.within); home = w.home; first = rw t w.first }

-- ---- the section that an index names

found_below : (d t : List ℕ) (v : View) (p : ℕ → Bool) (n i : ℕ) → find p (up_to n) ≡ Some i → (i < n) × (p i ≡ true)
unfolding tab find first_in
found_below d t v p zero i e = not_some i (sym e)
found_below d t v p (suc n) i e =
    go (find p (up_to n)) (p n) refl refl (found_below d t v p n i)
    (sym (find-append v.order (section_in d t v) v.sections (symbol_in d t v) v.symbols p (up_to n) (n ∷ [])) ∙ e)
  where
    go : (o : Option ℕ) (b : Bool) → find p (up_to n) ≡ o → p n ≡ b → (find p (up_to n) ≡ Some i → (i < n) × (p i ≡ true))
        → or_else o (or_else (cond b (Some n) None) None) ≡ Some i → (i < suc n) × (p i ≡ true)
    go None true u v r q = let w : n ≡ i = cc in (omega arith, rw (← w) v)
    go None false u v r q = not_some i (sym q)
    go (Some j) b u v r q = let w = r (u ∙ q) in (omega (arith, w.0), w.1)

-- the section that a symbol lies in, if there is one
abbrev section_of : SymbolRecord → Option SectionIndex
section_of y = unless_none y.section.0 y.section

-- a list of places keeps one more than a place, and 0 for none
abbrev pub place_kept : ℕ → Option ℕ
place_kept zero = None
place_kept (suc q) = Some q

pub none-kept : (n : ℕ) → None ≡ place_kept n → n ≡ 0
none-kept zero e = refl
none-kept (suc n) e = let z : ◌≡◌ {A = ℕ} 0 1 = cc in absurd (omega arith)

pub some-kept : (n q : ℕ) → Some q ≡ place_kept n → n ≡ suc q
some-kept zero q e = let z : ◌≡◌ {A = ℕ} 0 1 = cc in absurd (omega arith)
some-kept (suc n) q e = cc

pub kept-some : (n : ℕ) → 0 < n → Some (n - 1) ≡ place_kept n
kept-some zero l = absurd (omega arith)
kept-some (suc n) l = ap (λ (k : ℕ). Some k) (omega arith)

-- the place that a list of places says for a symbol's section
abbrev pub map_place_of : List ℕ → List ℕ → View → List ℕ → SymbolRecord → ℕ
map_place_of d t v by y = maybe (section_of y) 0 (λ k. maybe (owner_in d t v k.0) 0 (λ i. get_or by i 0))

module _ (d t : List ℕ) (v : View) (rise : Readable d t v) where
  abbrev index_at : ℕ → ℕ
  index_at i = (section_in d t v i).index.0

  pub owned-some : (k i : ℕ) → owner_in d t v k ≡ Some i → (i < v.sections) × (index_at i ≡ k)
  unfolding owner
  owned-some k i e = let w = found_below d t v (λ j. eqb (index_at j) k) v.sections i e in (w.0, eqb-true (index_at i) k w.1)

  owned : (i : ℕ) → i < v.sections → owner_in d t v (index_at i) ≡ Some i
  owned i l = owner-is v.order (section_in d t v) v.sections (symbol_in d t v) v.symbols (rising d t v rise.sections-rise) i l

  -- an index names one section
  index_same : (i j : ℕ) → i < v.sections → j < v.sections → eqb (index_at j) (index_at i) ≡ eqb j i
  index_same i j l m = go (eqb j i) refl
    where
      go : (b : Bool) → eqb j i ≡ b → eqb (index_at j) (index_at i) ≡ b
      go true e = let q : j ≡ i = eqb-true j i e in eq-eqb (index_at j) (index_at i) (ap index_at q)
      go false e = ne_eqb (index_at j) (index_at i) (λ q. apart (sym (owned j m) ∙ ap (owner_in d t v) q ∙ owned i l))
        where
          apart : Some j ≡ Some i → ⊥
          apart q = let w : j ≡ i = cc in eqb-false j i e w

  -- ---- the map of a section

  map-section : (n : ℕ) → (map_at d t v n).section.0 ≡ index_at (map_home d t v n)
  unfolding map_home data_map legacy_map
  map-section n = go (map_source_of v.sections n)
    where
      go : (s : MapSource) → (map_of v.order (section_in d t v) v.sections (symbol_in d t v) v.symbols s).section.0 ≡ index_at (source_home d t v s)
      go (MapSource.Section i) = refl
      go (MapSource.Symbol j) = refl

  abbrev map_or : Option ℕ → Option Map
  map_or None = None
  map_or (Some n) = Some (map_at d t v n)

  abbrev lies : Option SectionIndex → ℕ → Bool
  lies o n = lies_in (map_at d t v n).section o

  find-maps : (o : Option SectionIndex) (p : ℕ → Bool) (ns : List ℕ) → All (MapFits d t v) ns → ((n : ℕ) → MapFits d t v n → lies o n ≡ p n)
      → find (λ m. lies_in m.section o) (map (map_at d t v) ns) ≡ map_or (find p ns)
  unfolding find first_in
  find-maps o p [] a e = refl
  find-maps o p (n ∷ ns) a e = rw (e n a.0) (go (p n) (find-maps o p ns a.1 e))
    where
      go : (b : Bool) → find (λ m. lies_in m.section o) (map (map_at d t v) ns) ≡ map_or (find p ns)
          → or_else (cond b (Some (map_at d t v n)) None) (find (λ m. lies_in m.section o) (map (map_at d t v) ns)) ≡ map_or (or_else (cond b (Some n) None) (find p ns))
      go true r = refl
      go false r = r

  find-nothing : (ns : List ℕ) → find (λ n. false) ns ≡ None
  unfolding find first_in
  find-nothing [] = refl
  find-nothing (n ∷ ns) = find-nothing ns

  module _ (ns : List ℕ) (fits : All (MapFits d t v) ns) (by : List ℕ) (e : take v.sections by ≡ map_places d t v ns) (y : SymbolRecord) where
    -- the first map that has the symbol's section
    abbrev pub map_for : Option Map
    map_for = find (λ m. lies_in m.section (symbol_from d t v y).section) (map (map_at d t v) ns)

    -- it stands at place q, and who lies where the symbol lies is made from its section
    pub record Mapped (q : ℕ) : Type 0 where
      pub within : q < length ns
      pub is : map_for ≡ Some (map_at d t v (get_or ns q 0))
      pub same_home : (n : ℕ) → MapFits d t v n → lies_in (map_at d t v n).section (symbol_from d t v y).section ≡ eqb (map_home d t v n) (map_home d t v (get_or ns q 0))

    place_is : (i : ℕ) → i < v.sections → get_or by i 0 ≡ first_place_from 0 i (map (map_home d t v) ns)
    unfolding map_places
    place_is i l = sym (get_or-take v.sections by i 0 l) ∙ ap (λ t. get_or t i 0) e ∙ get_or-tab (λ i. first_place_from 0 i (map (map_home d t v) ns)) v.sections i 0 l

    -- no section has the index
    no-owner : (k : SectionIndex) → owner_in d t v k.0 ≡ None → (n : ℕ) → MapFits d t v n → lies (Some k) n ≡ false
    no-owner k u n f =
        let l : map_home d t v n < v.sections = home_below d t v n f in
        ap (λ j. eqb j k.0) (map-section n)
        ∙ ne_eqb (index_at (map_home d t v n)) k.0 (λ q. not_some (map_home d t v n) (sym (owned (map_home d t v n) l) ∙ ap (owner_in d t v) q ∙ u))

    -- section i has it
    by_home : (k : SectionIndex) (i : ℕ) → owner_in d t v k.0 ≡ Some i → (n : ℕ) → MapFits d t v n → lies (Some k) n ≡ eqb (map_home d t v n) i
    by_home k i u n f =
        let (l, q) = owned-some k.0 i u in
        ap (λ j. eqb j k.0) (map-section n) ∙ ap (eqb (index_at (map_home d t v n))) (sym q) ∙ index_same i (map_home d t v n) l (home_below d t v n f)

    pub no-map : map_place_of d t v by y ≡ 0 → map_for ≡ None
    unfolding symbol_from
    no-map z = go (section_of y) z
      where
        at : (k : SectionIndex) (w : Option ℕ) → owner_in d t v k.0 ≡ w → maybe w 0 (λ i. get_or by i 0) ≡ 0
            → find (λ m. lies_in m.section (Some k)) (map (map_at d t v) ns) ≡ None
        at k None u z = find-maps (Some k) (λ n. false) ns fits (no-owner k u) ∙ ap map_or (find-nothing ns)
        at k (Some i) u z =
            find-maps (Some k) (λ n. eqb (map_home d t v n) i) ns fits (by_home k i u)
            ∙ ap map_or (place_none (map_home d t v) i 0 ns (sym (place_is i (owned-some k.0 i u).0) ∙ z))

        go : (o : Option SectionIndex) → maybe o 0 (λ k. maybe (owner_in d t v k.0) 0 (λ i. get_or by i 0)) ≡ 0
            → find (λ m. lies_in m.section o) (map (map_at d t v) ns) ≡ None
        go None z = find-maps None (λ n. false) ns fits (λ n f. refl) ∙ ap map_or (find-nothing ns)
        go (Some k) z = at k (owner_in d t v k.0) refl z

    pub the-map : (q : ℕ) → map_place_of d t v by y ≡ suc q → Mapped q
    unfolding symbol_from
    the-map q z = go (section_of y) refl z
      where
        made : (k : SectionIndex) (i : ℕ) → section_of y ≡ Some k → owner_in d t v k.0 ≡ Some i → get_or by i 0 ≡ suc q → Mapped q
        made k i s u z =
            let w = place-some (map_home d t v) i 0 q ns (sym (place_is i (owned-some k.0 i u).0) ∙ z ∙ omega arith) in
            record {
              within = w.within;
              is = rw s (find-maps (Some k) (λ n. eqb (map_home d t v n) i) ns fits (by_home k i u) ∙ ap map_or w.first);
              same_home = λ n f. rw (s, w.home) (by_home k i u n f);
            }

        at : (k : SectionIndex) (w : Option ℕ) → section_of y ≡ Some k → owner_in d t v k.0 ≡ w → maybe w 0 (λ i. get_or by i 0) ≡ suc q → Mapped q
        at k None s u z = let no : ⊥ = omega arith in absurd no
        at k (Some i) s u z = made k i s u z

        go : (o : Option SectionIndex) → section_of y ≡ o → maybe o 0 (λ k. maybe (owner_in d t v k.0) 0 (λ i. get_or by i 0)) ≡ suc q → Mapped q
        go None s z = let no : ⊥ = omega arith in absurd no
        go (Some k) s z = at k (owner_in d t v k.0) s refl z

-- where the places stand in front of a list
pub places-front : (d t : List ℕ) (v : View) (ns by r : List ℕ) → by ≡ map_places d t v ns ++ r → take v.sections by ≡ map_places d t v ns
unfolding map_places
places-front d t v ns by r e =
    ap (take v.sections) e ∙ take_at (map_places d t v ns) r v.sections (length-tab (λ i. first_place_from 0 i (map (map_home d t v) ns)) v.sections)
