-- What an accepted entry does to the maps' own bytes as they lie one after the other.
use Rattle.std.specs.Prelude.{◌≡◌, Bool, not, ℕ, zero, suc, ◌+◌, ◌-◌, ◌*◌, ◌<◌, ◌≤◌, ltb, get_or, take, None, Option}
use Rattle.std.proofs.Math.Path.{refl, ap}
use Rattle.std.proofs.Common.{sym, ◌∙◌, le_refl, get_or-take}
use Rattle.std.proofs.Math.Seq.{take-length}
use Rattle.std.proofs.Math.Bool.{true, false, cond}
use mathlib.Core.List.{List, [], ◌∷◌, ◌++◌, map}
use native.Mathlib.Omega.{arith}
use borrow.Author.Tests.{eq-eqb, eqb-true, ltb-true, ltb-false, not-false}
use Rattle.std.proofs.Math.Dec.{eqb}
use Rattle.std.proofs.Math.ListN.{length, length-take, length-map}
use Rattle.std.proofs.lemmas.List.Edits.{sets}
use Rattle.lists.specs.Tab.{tab, tab-none, tab-more}
use Rattle.lists.specs.Tests.{not_some, both_false}
use Rattle.object_view.specs.declared.View.{View}
use Rattle.model.specs.declared.Refusal.{Refusal}
use Rattle.model.specs.declared.SymbolRecord.{SymbolRecord}
use Rattle.model.specs.Bytes.{each, or_else}
use Rattle.model.specs.Catalogue.{Map}
use Rattle.model.specs.Contents.{legacy_map}
use Rattle.model.specs.Lent.{map_name, map_own, map_row, placed, joined}
use Rattle.model.specs.Object.{Symbol, Patch}
use Rattle.model.specs.Patching.{patch_map}
use Rattle.model.specs.PatchList.{patches_of}
use Rattle.model.specs.Refusals.{of_entry, bearers, place_refusal, entry_refusal}
use Rattle.model.specs.Symbols.{top, lies_in}
use Rattle.catalogue_laws.specs.FunctionsMaps.{map_of}
use Rattle.catalogue_laws.specs.Numbers.{each_map}
use Rattle.catalogue_laws.specs.Placed.{each-room, length-joined}
use Rattle.records.specs.declared.MapSource.{MapSource}
use Rattle.records.specs.View.{symbol_at}
use Rattle.records.specs.Maps.{map_source_of}
use Rattle.object.specs.View.{section_in, symbol_in, symbol_from, object_in}
use Rattle.catalogue_numbers.specs.Numbers.{map_at}
use Rattle.bytes_maps.specs.Own.{own_bytes}
use Rattle.patch_symbols.specs.declared.Bearer.{Bearer}
use Rattle.patch_symbols.specs.Bearers.{bearer_of, bearers_in, bearers-by}
use Rattle.patch_maps.specs.Places.{map_home}
use Rattle.patch_maps.specs.Found.{map_place_of, place_kept, kept-some, Mapped}
use Rattle.patch_checks.specs.Entries.{entry_count, patch_at, patches-are}
use Rattle.patch_checks.specs.Checks.{past, maps_of_numbers, Sited, all_fit, entry_fault, refused-22, map_at_lem, by-own, not-inside, other-mark, by-bearer}
use Rattle.patch_data.specs.Alone.{IsSection, Alone}
use Rattle.patch_data.specs.Patched.{reach, patched_map, patched_maps, none-patched, same-section, same_length, patched-more}
use Rattle.patch_data.specs.Region.{each-length, each-kept, each-sets, own-place}

module _ (d t : List ℕ) (v : View) where
  -- the rows of the map table stand in front, and the own bytes begin at `own`
  pub record Rows (maps : List ℕ) (own : ℕ) (rows : List ℕ) : Type 0 where
    pub at : ℕ
    pub front : take (length maps * 27) rows ≡ joined (placed map_name map_own map_row at own (maps_of_numbers d t v maps))

  -- where the bytes of a symbol begin among those that the maps own
  abbrev pub own_place_of : List ℕ → List ℕ → ℕ → SymbolRecord → ℕ
  own_place_of by rows own y = get_or rows (27 * (map_place_of d t v by y - 1) + 5) 0 - own + y.address

  -- a symbol has a map, whose row is there, and its bytes lie among `size`
  pub record MapReached (by rows : List ℕ) (own : ℕ) (y : SymbolRecord) (len size : ℕ) : Type 0 where
    pub mapped : 0 < map_place_of d t v by y
    pub row : 27 * (map_place_of d t v by y - 1) + 5 < length rows
    pub start : own ≤ get_or rows (27 * (map_place_of d t v by y - 1) + 5) 0
    pub room : own_place_of by rows own y + len ≤ size

  -- what the maps own once e entries have acted
  unfoldable pub own_after : List ℕ → List ℕ → List ℕ → ℕ → List ℕ
  own_after entries lent maps e = each map_own (patched_maps (object_in d t v) (tab (patch_at entries lent) e) (maps_of_numbers d t v maps))

  pub own_first : (entries lent maps : List ℕ) → each map_own (maps_of_numbers d t v maps) ≡ own_after entries lent maps 0
  unfolding own_after
  own_first entries lent maps = rw (tab-none (patch_at entries lent), none-patched (object_in d t v) (maps_of_numbers d t v maps))

  pub own-last : (entries lent maps : List ℕ)
      → own_after entries lent maps (entry_count entries) ≡ each map_own (patched_maps (object_in d t v) (patches_of entries lent) (maps_of_numbers d t v maps))
  unfolding own_after
  own-last entries lent maps = rw (patches-are entries lent)

  -- by the maps' numbers
  abbrev own_by : List Patch → ℕ → List ℕ
  own_by ps k = map_own (patched_map (object_in d t v) ps (map_at d t v k))

  own-by : (ps : List Patch) (ns : List ℕ) → each map_own (patched_maps (object_in d t v) ps (map (map_at d t v) ns)) ≡ each (own_by ps) ns
  unfolding patched_maps
  own-by ps ns = each_map map_own (patched_map (object_in d t v) ps) (map (map_at d t v) ns) ∙ each_map (λ m. map_own (patched_map (object_in d t v) ps m)) (map_at d t v) ns

  own-section : (k : ℕ) → 0 < length (own_bytes d t v k) → IsSection (map_source_of v.sections k)
  unfolding legacy_map
  own-section k l = go (map_source_of v.sections k) l
    where
      go : (s : MapSource) → 0 < length (map_own (map_of v.order (section_in d t v) v.sections (symbol_in d t v) v.symbols s)) → IsSection s
      go (MapSource.Section i) q = tt
      go (MapSource.Symbol j) q = let no : ⊥ = omega arith in absurd no

  -- ---- what acceptance says of an entry

  module _ (ms : List Map) (e : ℕ) (p : Patch) (ok : entry_refusal (object_in d t v) ms e p ≡ None) where
    pub inside-ok : p.inside ≡ true
    inside-ok = go p.inside refl
      where
        go : (b : Bool) → p.inside ≡ b → p.inside ≡ true
        go true q = q
        go false q = not_some _ (sym (not-inside d t v ms e p q) ∙ ok)

    mark-ok : p.mark ≤ 1
    mark-ok = go (ltb 1 p.mark) refl
      where
        go : (b : Bool) → ltb 1 p.mark ≡ b → p.mark ≤ 1
        go true q = not_some _ (sym (other-mark d t v ms e p (ltb-true 1 p.mark q)) ∙ ok)
        go false q = ltb-false 1 p.mark q

    bearer-ok : (b : Bearer) → b ≡ bearer_of (bearers_in d t v p.name) → entry_fault d t v ms e (length p.bytes) p.mark b ≡ None
    bearer-ok b f = sym (by-bearer d t v ms e p inside-ok mark-ok b f) ∙ ok

    not-several : Bearer.Several ≡ bearer_of (bearers_in d t v p.name) → ⊥
    not-several f = not_some _ (bearer-ok Bearer.Several f)

    module _ (j : ℕ) (one : Bearer.One j ≡ bearer_of (bearers_in d t v p.name)) where
      two_none : (b : Bool) (r : Option Refusal) → or_else (of_entry 21 e b) r ≡ None → (b ≡ false) × (r ≡ None)
      two_none true r q = not_some _ q
      two_none false r q = (refl, q)

      both : (not (eqb (length p.bytes) (symbol_in d t v j).size) ≡ false) × (place_refusal ms e (symbol_in d t v j) ≡ None)
      both = two_none (not (eqb (length p.bytes) (symbol_in d t v j).size)) (place_refusal ms e (symbol_in d t v j)) (bearer-ok (Bearer.One j) one)

      pub size_ok : length p.bytes ≡ (symbol_at d t v j).size
      unfolding symbol_from
      size_ok = eqb-true (length p.bytes) (symbol_at d t v j).size (not-false _ both.0)

      pub place_ok : place_refusal ms e (symbol_from d t v (symbol_at d t v j)) ≡ None
      place_ok = both.1

  -- ---- the entry acts

  one-is : (j : ℕ) (js : List ℕ) → Bearer.One j ≡ bearer_of js → js ≡ j ∷ []
  one-is j [] q = let z : ◌≡◌ {A = ℕ} 0 1 = cc in absurd (omega arith)
  one-is j (i ∷ []) q = let e : j ≡ i = cc in rw e
  one-is j (i ∷ k ∷ js) q = let z : ◌≡◌ {A = ℕ} 0 1 = cc in absurd (omega arith)

  nobody-is : (js : List ℕ) → Bearer.Nothing ≡ bearer_of js → js ≡ []
  nobody-is [] q = refl
  nobody-is (i ∷ []) q = let z : ◌≡◌ {A = ℕ} 0 1 = cc in absurd (omega arith)
  nobody-is (i ∷ k ∷ js) q = let z : ◌≡◌ {A = ℕ} 0 1 = cc in absurd (omega arith)

  module _ (ps : List Patch) (p : Patch) where
    reached-by : (ys : List Symbol) → bearers (object_in d t v) p.name ≡ ys → (k : ℕ) → own_by (ps ++ (p ∷ [])) k ≡ map_own (reach ys p.bytes (patched_map (object_in d t v) ps (map_at d t v k)))
    reached-by ys e k =
        ap map_own (patched-more (object_in d t v) ps p (map_at d t v k))
        ∙ ap (λ l. map_own (reach l p.bytes (patched_map (object_in d t v) ps (map_at d t v k)))) e

    -- nobody bears the name
    passed_over : Bearer.Nothing ≡ bearer_of (bearers_in d t v p.name) → (ns : List ℕ) → each (own_by ps) ns ≡ each (own_by (ps ++ (p ∷ []))) ns
    passed_over q ns =
        each-kept (own_by ps) (own_by (ps ++ (p ∷ []))) ns
        (λ r l. reached-by [] (bearers-by d t v p.name ∙ ap (map (symbol_in d t v)) (nobody-is (bearers_in d t v p.name) q)) (get_or ns r 0))

    module _ (j : ℕ) (one : Bearer.One j ≡ bearer_of (bearers_in d t v p.name)) where
      by_one : (k : ℕ) → own_by (ps ++ (p ∷ [])) k
          ≡ cond (lies_in (map_at d t v k).section (symbol_in d t v j).section) (sets (own_by ps k) (symbol_in d t v j).address p.bytes) (own_by ps k)
      unfolding patch_map
      by_one k =
          reached-by (symbol_in d t v j ∷ []) (bearers-by d t v p.name ∙ ap (map (symbol_in d t v)) (one-is j (bearers_in d t v p.name) one)) k
          ∙ ap (λ s. cond (lies_in s (symbol_in d t v j).section) (sets (own_by ps k) (symbol_in d t v j).address p.bytes) (own_by ps k))
          (same-section (object_in d t v) ps (map_at d t v k))

  module _ (maps by : List ℕ) (s : Sited d t v maps by) (own : ℕ) (rows : List ℕ) (rs : Rows maps own rows) where
    rows-length : length maps * 27 ≤ length rows
    unfolding map_row
    rows-length =
        let t : length (take (length maps * 27) rows) ≡ length maps * 27 =
        ap length rs.front ∙ length-joined map_name map_own map_row 27 (λ a b m. refl) rs.at own (maps_of_numbers d t v maps)
        ∙ ap (λ k. k * 27) (length-map maps (map_at d t v))
        in
        omega (arith, length-take (length maps * 27) rows)

    -- the place that the row of map q says
    row-own : (q : ℕ) → q < length maps → get_or rows (27 * q + 5) 0 ≡ own + length (each (own_bytes d t v) (take q maps))
    row-own q l =
        let i : 27 * q + 5 < length maps * 27 = omega arith in
        sym (get_or-take (length maps * 27) rows (27 * q + 5) 0 i)
        ∙ ap (λ t. get_or t (27 * q + 5) 0) rs.front
        ∙ own-place (map_at d t v) maps q rs.at own l

    -- of a symbol whose place is accepted
    module _ (y : SymbolRecord) (e : ℕ) (ok : place_refusal (maps_of_numbers d t v maps) e (symbol_from d t v y) ≡ None) where
      abbrev place : ℕ
      place = map_place_of d t v by y

      mapped : 0 < place
      mapped = go place refl
        where
          go : (n : ℕ) → place ≡ n → 0 < n
          go zero z = not_some _ (sym (refused-22 d t v maps by s y e (ap place_kept (sym z))) ∙ ok)
          go (suc n) z = omega arith

      abbrev at : ℕ
      at = place - 1

      found : Mapped d t v s.readable maps (all_fit d t v maps by s) by s.places y at
      found = map_at_lem d t v maps by s y e at (kept-some place mapped)

      not-past : past (length (own_bytes d t v (get_or maps at 0))) y.address y.size ≡ false
      not-past = go (past (length (own_bytes d t v (get_or maps at 0))) y.address y.size) refl
        where
          go : (b : Bool) → past (length (own_bytes d t v (get_or maps at 0))) y.address y.size ≡ b → b ≡ false
          go true q = not_some _ (ap (of_entry 23 e) (sym q) ∙ sym (by-own d t v maps by s y e at (kept-some place mapped)) ∙ ok)
          go false q = refl

      within : y.address + y.size ≤ length (own_bytes d t v (get_or maps at 0))
      within = ltb-false _ _ (both_false (ltb (length (own_bytes d t v (get_or maps at 0))) (y.address + y.size)) (ltb top (y.address + y.size)) not-past).0

      target : own_place_of by rows own y ≡ length (each (own_bytes d t v) (take at maps)) + y.address
      target = let r : get_or rows (27 * at + 5) 0 ≡ own + length (each (own_bytes d t v) (take at maps)) = row-own at found.within in omega arith

      pub reached : MapReached by rows own y y.size (length (each (own_bytes d t v) maps))
      reached =
          let all : take (length maps) maps ≡ maps = take-length maps in
          let r : length (each (own_bytes d t v) (take at maps)) + length (own_bytes d t v (get_or maps at 0)) ≤ length (each (own_bytes d t v) (take (length maps) maps)) =
          each-room (own_bytes d t v) maps 0 at (length maps) found.within (le_refl (length maps))
          in
          record {
            mapped = mapped;
            row = omega (arith, found.within, rows-length);
            start = omega (arith, row-own at found.within);
            room = omega (arith, target, within, rw all at r);
          }

    module _ (alone : Alone d t v maps) (ps : List Patch) (p : Patch) (e : ℕ) (ok : entry_refusal (object_in d t v) (maps_of_numbers d t v maps) e p ≡ None)
        (j : ℕ) (one : Bearer.One j ≡ bearer_of (bearers_in d t v p.name)) where
      abbrev y : SymbolRecord
      y = symbol_at d t v j

      abbrev q : ℕ
      q = map_place_of d t v by y - 1

      accepted : place_refusal (maps_of_numbers d t v maps) e (symbol_from d t v y) ≡ None
      accepted = place_ok (maps_of_numbers d t v maps) e p ok j one

      it : Mapped d t v s.readable maps (all_fit d t v maps by s) by s.places y q
      it = found y e accepted

      inside : y.address + length p.bytes ≤ length (own_bytes d t v (get_or maps q 0))
      inside = rw (size_ok (maps_of_numbers d t v maps) e p ok j one) (within y e accepted)

      here : own_by (ps ++ (p ∷ [])) (get_or maps q 0) ≡ sets (own_by ps (get_or maps q 0)) y.address p.bytes
      unfolding symbol_from
      here =
          by_one ps p j one (get_or maps q 0)
          ∙ rw (it.same_home (get_or maps q 0) (s.fits q it.within), eq-eqb (map_home d t v (get_or maps q 0)) (map_home d t v (get_or maps q 0)) refl)

      -- where there is data, no other map has the section
      other : (r : ℕ) → r < length maps → (r ≡ q → ⊥) → own_by (ps ++ (p ∷ [])) (get_or maps r 0) ≡ own_by ps (get_or maps r 0)
      unfolding symbol_from
      other r l o =
          by_one ps p j one (get_or maps r 0)
          ∙ rw (it.same_home (get_or maps r 0) (s.fits r l)) (go (eqb (map_home d t v (get_or maps r 0)) (map_home d t v (get_or maps q 0))) refl p.bytes inside)
        where
          go : (b : Bool) → eqb (map_home d t v (get_or maps r 0)) (map_home d t v (get_or maps q 0)) ≡ b → (vs : List ℕ)
              → y.address + length vs ≤ length (own_bytes d t v (get_or maps q 0)) → cond b (sets (own_by ps (get_or maps r 0)) y.address vs) (own_by ps (get_or maps r 0)) ≡ own_by ps (get_or maps r 0)
          go false f vs g = refl
          go true f [] g = refl
          go true f (v ∷ vs) g =
              absurd (o (alone q r it.within l (own-section (get_or maps q 0) (omega arith)) (eqb-true _ _ f)))

      pub acted : sets (each (own_by ps) maps) (own_place_of by rows own y) p.bytes ≡ each (own_by (ps ++ (p ∷ []))) maps
      acted =
          let c : (k : ℕ) → length (own_bytes d t v k) ≡ length (own_by ps k) = λ k. sym (same_length (object_in d t v) ps (map_at d t v k)) in
          let t : own_place_of by rows own y ≡ length (each (own_by ps) (take q maps)) + y.address =
          target y e accepted ∙ ap (λ k. k + y.address) (each-length (own_bytes d t v) (own_by ps) c (take q maps))
          in
          ap (λ k. sets (each (own_by ps) maps) k p.bytes) t
          ∙ each-sets (own_by ps) (own_by (ps ++ (p ∷ []))) maps q y.address p.bytes it.within (omega (arith, inside, c (get_or maps q 0))) here other

  -- ---- from one entry to the next

  module _ (entries lent maps : List ℕ) (e : ℕ) where
    after_next : own_after entries lent maps (e + 1) ≡ each (own_by (tab (patch_at entries lent) e ++ (patch_at entries lent e ∷ []))) maps
    unfolding own_after
    after_next =
        ap (λ ps. each map_own (patched_maps (object_in d t v) ps (maps_of_numbers d t v maps))) (tab-more (patch_at entries lent) e)
        ∙ own-by (tab (patch_at entries lent) e ++ (patch_at entries lent e ∷ [])) maps

    after_is : own_after entries lent maps e ≡ each (own_by (tab (patch_at entries lent) e)) maps
    unfolding own_after
    after_is = own-by (tab (patch_at entries lent) e) maps

    -- not one symbol alone bears the name of an accepted entry
    pub after-passed : entry_refusal (object_in d t v) (maps_of_numbers d t v maps) (e + 1) (patch_at entries lent e) ≡ None
        → (b : Bearer) → b ≡ bearer_of (bearers_in d t v (patch_at entries lent e).name) → ((j : ℕ) → b ≡ Bearer.One j → ⊥)
        → own_after entries lent maps e ≡ own_after entries lent maps (e + 1)
    after-passed ok Bearer.Nothing w n = after_is ∙ passed_over (tab (patch_at entries lent) e) (patch_at entries lent e) w maps ∙ sym after_next
    after-passed ok (Bearer.One j) w n = absurd (n j refl)
    after-passed ok Bearer.Several w n = absurd (not-several (maps_of_numbers d t v maps) (e + 1) (patch_at entries lent e) ok w)

    after-length : length (own_after entries lent maps e) ≡ length (each (own_bytes d t v) maps)
    after-length =
        ap length after_is
        ∙ each-length (own_by (tab (patch_at entries lent) e)) (own_bytes d t v) (λ k. same_length (object_in d t v) (tab (patch_at entries lent) e) (map_at d t v k)) maps

    module _ (by : List ℕ) (s : Sited d t v maps by) (own : ℕ) (rows : List ℕ) (rs : Rows maps own rows)
        (ok : entry_refusal (object_in d t v) (maps_of_numbers d t v maps) (e + 1) (patch_at entries lent e) ≡ None)
        (j : ℕ) (one : Bearer.One j ≡ bearer_of (bearers_in d t v (patch_at entries lent e).name)) where
      module _ (y : SymbolRecord) (b vs : List ℕ) (is-symbol : y ≡ symbol_at d t v j) (is-now : b ≡ own_after entries lent maps e) (is-given : vs ≡ (patch_at entries lent e).bytes) where
        pub after-reached : MapReached by rows own y (length vs) (length b)
        after-reached =
            rw (is-symbol, is-now, is-given, after-length, size_ok (maps_of_numbers d t v maps) (e + 1) (patch_at entries lent e) ok j one)
            (reached maps by s own rows rs (symbol_at d t v j) (e + 1) (place_ok (maps_of_numbers d t v maps) (e + 1) (patch_at entries lent e) ok j one))

        pub after_one : Alone d t v maps → sets b (own_place_of by rows own y) vs ≡ own_after entries lent maps (e + 1)
        after_one alone =
            rw (is-symbol, is-given, is-now, after_is) (acted maps by s own rows rs alone (tab (patch_at entries lent) e) (patch_at entries lent e) (e + 1) ok j one ∙ sym after_next)
