-- Numbers 18 to 23, by what is read of an entry, of the symbol that bears its name and of the map of the symbol's section.
use Rattle.std.proofs.Math.Path.{◌≡◌, refl, ap}
use Rattle.std.proofs.Common.{sym, ◌∙◌, arith, lt-ltb, le-ltb}
use Rattle.std.specs.Prelude.{⊤, Bool, not, ◌||◌, ℕ, suc, ◌+◌, ◌<◌, ◌≤◌, eqb, ltb, length, get_or, take, drop, Err, None, Ok, Option, Result, Some}
use Rattle.std.proofs.Math.Bool.{true, false}
use mathlib.Core.List.{List, [], ◌∷◌, map}
use Rattle.std.proofs.Math.Numerals.{add-one}
use Rattle.lists.specs.Tab.{tab}
use Rattle.lists.specs.Walk.{drop-tab-next, drop-tab-none}
use Rattle.lists.specs.Tests.{not_some}
use Rattle.object_view.specs.declared.View.{View}
use Rattle.model.specs.declared.Refusal.{Refusal}
use Rattle.model.specs.declared.SymbolRecord.{SymbolRecord}
use Rattle.model.specs.Bytes.{or_else}
use Rattle.model.specs.Catalogue.{Map}
use Rattle.model.specs.Object.{Object, Patch}
use Rattle.model.specs.PatchList.{patches_of}
use Rattle.model.specs.Refusals.{of_entry, passes, bearers, place_refusal, bearer_refusal, entry_refusal, patch_refusal}
use Rattle.model.specs.Symbols.{top}
use Rattle.catalogue_laws.specs.SectionsPrograms.{All}
use Rattle.object.specs.Checked.{checked_of}
use Rattle.object.specs.View.{symbol_in, symbol_from, object_in}
use Rattle.catalogue_numbers.specs.Numbers.{map_at}
use Rattle.catalogue_numbers.specs.Fits.{MapFits}
use Rattle.records.specs.Readable.{Readable}
use Rattle.patch_symbols.specs.declared.Bearer.{Bearer}
use Rattle.patch_symbols.specs.Bearers.{bearer_of, bearers_in, bearers-by}
use Rattle.patch_maps.specs.Places.{map_places}
use Rattle.patch_maps.specs.Found.{map_place_of, place_kept, none-kept, some-kept, Mapped, no-map, the-map}
use Rattle.patch_checks.specs.Entries.{entry_count, patch_at, patches-are}

abbrev pub past : ℕ → ℕ → ℕ → Bool
past n at size = ltb n (at + size) || ltb top (at + size)

all_each : (P : ℕ → Type 0) (l : List ℕ) → ((k : ℕ) → k < length l → P (get_or l k 0)) → All P l
all_each P [] f = tt
all_each P (x ∷ l) f = (f 0 (omega arith), all_each P l (λ k m. f (suc k) (omega arith)))

module _ (d t : List ℕ) (v : View) where
  -- the maps of some numbers
  abbrev pub maps_of_numbers : List ℕ → List Map
  maps_of_numbers maps = map (map_at d t v) maps

  -- map numbers, and where the maps of each section stand among them
  pub record Sited (maps by : List ℕ) : Type 0 where
    pub readable : Readable d t v
    pub fits : (k : ℕ) → k < length maps → MapFits d t v (get_or maps k 0)
    pub places : take v.sections by ≡ map_places d t v maps

  module _ (maps by : List ℕ) (s : Sited maps by) where
    pub all_fit : All (MapFits d t v) maps
    all_fit = all_each (MapFits d t v) maps s.fits

    -- ---- the symbol's place

    module _ (y : SymbolRecord) (e : ℕ) where
      own-past : (m : Map) → passes m.own (symbol_from d t v y).address (symbol_from d t v y).size ≡ past (length m.own) y.address y.size
      unfolding symbol_from passes
      own-past m = refl

      pub refused-22 : None ≡ place_kept (map_place_of d t v by y) → place_refusal (maps_of_numbers maps) e (symbol_from d t v y) ≡ of_entry 22 e true
      unfolding place_refusal
      refused-22 z = rw (no-map d t v s.readable maps all_fit by s.places y (none-kept _ z))

      module _ (q : ℕ) (is : Some q ≡ place_kept (map_place_of d t v by y)) where
        pub map_at_lem : Mapped d t v s.readable maps all_fit by s.places y q
        map_at_lem = the-map d t v s.readable maps all_fit by s.places y q (some-kept _ _ is)

        pub by-own : place_refusal (maps_of_numbers maps) e (symbol_from d t v y) ≡ of_entry 23 e (past (length (map_at d t v (get_or maps q 0)).own) y.address y.size)
        unfolding place_refusal
        by-own = rw map_at_lem.is (ap (of_entry 23 e) (own-past (map_at d t v (get_or maps q 0))))

  -- ---- the entry

  module _ (ms : List Map) (e : ℕ) where
    -- what refuses an entry with data of some length and a mark, by the symbols that bear its name
    abbrev pub entry_fault : ℕ → ℕ → Bearer → Option Refusal
    entry_fault length mark Bearer.Nothing = of_entry 20 e (eqb mark 1)
    entry_fault length mark (Bearer.One j) = or_else (of_entry 21 e (not (eqb length (symbol_in d t v j).size))) (place_refusal ms e (symbol_in d t v j))
    entry_fault length mark Bearer.Several = of_entry 19 e true

    by-bearers : (p : Patch) (js : List ℕ) → bearer_refusal ms e p (map (symbol_in d t v) js) ≡ entry_fault (length p.bytes) p.mark (bearer_of js)
    unfolding bearer_refusal
    by-bearers p [] = refl
    by-bearers p (j ∷ []) = refl
    by-bearers p (j ∷ k ∷ js) = refl

    passed : (a b : Bool) (r : Option Refusal) → a ≡ true → b ≡ false → or_else (of_entry 18 e (not a || b)) r ≡ r
    passed a b r p q = rw (p, q)

    module _ (p : Patch) where
      pub not-inside : p.inside ≡ false → entry_refusal (object_in d t v) ms e p ≡ of_entry 18 e true
      unfolding entry_refusal
      not-inside q = rw q

      pub other-mark : 1 < p.mark → entry_refusal (object_in d t v) ms e p ≡ of_entry 18 e true
      unfolding entry_refusal
      other-mark q = rw (lt-ltb 1 p.mark q) (go (not p.inside))
        where
          go : (b : Bool) → or_else (of_entry 18 e (b || true)) (bearer_refusal ms e p (bearers (object_in d t v) p.name)) ≡ of_entry 18 e true
          go true = refl
          go false = refl

      pub by-bearer : p.inside ≡ true → p.mark ≤ 1 → (b : Bearer) → b ≡ bearer_of (bearers_in d t v p.name)
          → entry_refusal (object_in d t v) ms e p ≡ entry_fault (length p.bytes) p.mark b
      unfolding entry_refusal
      by-bearer q m b f =
          passed p.inside (ltb 1 p.mark) (bearer_refusal ms e p (bearers (object_in d t v) p.name)) q (le-ltb 1 p.mark m)
          ∙ ap (bearer_refusal ms e p) (bearers-by d t v p.name)
          ∙ by-bearers p (bearers_in d t v p.name)
          ∙ ap (entry_fault (length p.bytes) p.mark) (sym f)

-- ---- the list

module _ (o : Object) (ms : List Map) (entries lent : List ℕ) where
  -- what is left of the list at entry e
  unfoldable pub rest_at : ℕ → Option Refusal
  rest_at e = patch_refusal o ms (e + 1) (drop e (tab (patch_at entries lent) (entry_count entries)))

  pub rest_all : patch_refusal o ms 1 (patches_of entries lent) ≡ rest_at 0
  unfolding rest_at
  rest_all = ap (patch_refusal o ms 1) (patches-are entries lent)

  module _ (e : ℕ) where
    module _ (l : e < entry_count entries) (w : Result ⊤ Refusal) (is : w ≡ checked_of (entry_refusal o ms (e + 1) (patch_at entries lent e))) where
      pub rest-refused : (r : Refusal) → w ≡ Err r → w ≡ checked_of (rest_at e)
      unfolding rest_at patch_refusal
      rest-refused r q = rw (drop-tab-next (patch_at entries lent) (entry_count entries) e l) (go (entry_refusal o ms (e + 1) (patch_at entries lent e)) is)
        where
          go : (a : Option Refusal) → w ≡ checked_of a → w ≡ checked_of (or_else a (patch_refusal o ms (suc (e + 1)) (drop (e + 1) (tab (patch_at entries lent) (entry_count entries)))))
          go None f = let z : ◌≡◌ {A = ℕ} 0 1 = cc in absurd (omega arith)
          go (Some x) f = f

      pub rest-next : w ≡ (Ok tt) → (entry_refusal o ms (e + 1) (patch_at entries lent e) ≡ None) × (rest_at e ≡ rest_at (e + 1))
      unfolding rest_at patch_refusal
      rest-next q = go (entry_refusal o ms (e + 1) (patch_at entries lent e)) refl is
        where
          go : (a : Option Refusal) → entry_refusal o ms (e + 1) (patch_at entries lent e) ≡ a → w ≡ checked_of a
              → (entry_refusal o ms (e + 1) (patch_at entries lent e) ≡ None) × (rest_at e ≡ rest_at (e + 1))
          go None g f = (g, rw (drop-tab-next (patch_at entries lent) (entry_count entries) e l, g, add-one (e + 1)))
          go (Some x) g f = let z : ◌≡◌ {A = ℕ} 0 1 = cc in absurd (omega arith)

    pub rest-none : e < entry_count entries → rest_at e ≡ None → (entry_refusal o ms (e + 1) (patch_at entries lent e) ≡ None) × (rest_at (e + 1) ≡ None)
    unfolding rest_at patch_refusal
    rest-none l z = go (entry_refusal o ms (e + 1) (patch_at entries lent e)) (rw (drop-tab-next (patch_at entries lent) (entry_count entries) e l) at z)
      where
        go : (a : Option Refusal) → or_else a (patch_refusal o ms (suc (e + 1)) (drop (e + 1) (tab (patch_at entries lent) (entry_count entries)))) ≡ None
            → (a ≡ None) × (patch_refusal o ms (e + 1 + 1) (drop (e + 1) (tab (patch_at entries lent) (entry_count entries))) ≡ None)
        go None f = (refl, rw (add-one (e + 1)) f)
        go (Some x) f = not_some x f

    pub rest_end : entry_count entries ≤ e → rest_at e ≡ None
    unfolding rest_at patch_refusal
    rest_end l = rw (drop-tab-none (patch_at entries lent) (entry_count entries) e l)
