-- A section that is a map itself has no other map.
use Rattle.std.specs.Prelude.{◌≡◌, Bool, true, false, cond, List, [], ◌∷◌, map, ltb, length}
use Rattle.std.proofs.Math.Path.{refl}
use Rattle.std.proofs.Common.{sym, ap, ◌∙◌, inl, inr, not-suc-le-zero, le_of_suc-le-suc, arith, ltb-true, ltb-false}
use Prim.Native.Nat.{ℕ, zero, suc, ◌<◌, ◌≤◌}
use Rattle.std.proofs.Math.ListN.{get_or}
use Rattle.lists.specs.Tests.{true-not-false}
use Rattle.object_view.specs.declared.View.{View}
use Rattle.model.specs.declared.EbpfSectionKind.{EbpfSectionKind as Kind}
use Rattle.model.specs.Bytes.{before, keep, ◌∈◌}
use Rattle.model.specs.Contents.{is_data}
use Rattle.model.specs.SectionKind.{is_kind, kind_of}
use Rattle.model.specs.Symbols.{lies_in}
use Rattle.orders.specs.Keys.{before-irrefl}
use Rattle.guarantees.specs.TableLaws.{Sorted, sorted-table}
use Rattle.catalogue_laws.specs.ByNumber.{members}
use Rattle.catalogue_laws.specs.FunctionsMaps.{maps_in, all-∈, all-rows}
use Rattle.catalogue_laws.specs.Numbers.{up_to}
use Rattle.catalogue_laws.specs.SectionsPrograms.{All, all_keep, home-is}
use Rattle.catalogue_laws.specs.Tables.{table-members}
use Rattle.object.specs.View.{section_in, symbol_in, rising}
use Rattle.record_keys.specs.declared.By.{By}
use Rattle.record_keys.specs.Keys.{key_of}
use Rattle.catalogue_numbers.specs.Numbers.{home_at, maps_from, map_candidates, map_numbers}
use Rattle.records.specs.declared.MapSource.{MapSource}
use Rattle.records.specs.Maps.{map_number_of, map_source_of, number_source, of-section}
use Rattle.records.specs.Readable.{Readable}
use Rattle.patch_maps.specs.Places.{source_home, map_home}

-- ---- a table has no number twice

get_or-∈ : (l : List ℕ) (q : ℕ) → q < length l → get_or l q 0 ∈ l
get_or-∈ [] q h = absurd (not-suc-le-zero h)
get_or-∈ (x ∷ l) zero h = inl refl
get_or-∈ (x ∷ l) (suc q) h = inr (get_or-∈ l q (le_of_suc-le-suc h))

module _ (key : ℕ → List ℕ) where
  strict : (l : List ℕ) → Sorted key l → (q r : ℕ) → q < r → r < length l → before (key (get_or l q 0)) (key (get_or l r 0)) ≡ true
  strict [] s q r k h = absurd (not-suc-le-zero h)
  strict (x ∷ l) s q zero k h = absurd (not-suc-le-zero k)
  strict (x ∷ l) s zero (suc r) k h = s.0 (get_or l r 0) (get_or-∈ l r (le_of_suc-le-suc h))
  strict (x ∷ l) s (suc q) (suc r) k h = strict l s.1 q r (le_of_suc-le-suc k) (le_of_suc-le-suc h)

  never : (l : List ℕ) → Sorted key l → (q r : ℕ) → q < r → r < length l → get_or l q 0 ≡ get_or l r 0 → ⊥
  never l s q r k h e =
      true-not-false (sym (strict l s q r k h) ∙ ap (λ n. before (key n) (key (get_or l r 0))) e ∙ before-irrefl (key (get_or l r 0)))

  once : (l : List ℕ) → Sorted key l → (q r : ℕ) → q < length l → r < length l → get_or l r 0 ≡ get_or l q 0 → r ≡ q
  once l s q r h k e = go (ltb q r) (ltb r q) refl refl
    where
      go : (a b : Bool) → ltb q r ≡ a → ltb r q ≡ b → r ≡ q
      go true b u v = absurd (never l s q r (ltb-true q r u) k (sym e))
      go false true u v = absurd (never l s r q (ltb-true r q v) h e)
      go false false u v = let x : r ≤ q = ltb-false q r u in let y : q ≤ r = ltb-false r q v in omega arith

-- ---- the numbers of the map table

-- a source that is a map itself
abbrev pub IsSection : MapSource → Type 0
IsSection (MapSource.Section i) = Unit {0}
IsSection (MapSource.Symbol j) = ⊥

module _ (d t : List ℕ) (v : View) where
  -- of some map numbers
  abbrev pub Alone : List ℕ → Type 0
  Alone ns =
      (q r : ℕ) → q < length ns → r < length ns → IsSection (map_source_of v.sections (get_or ns q 0)) → map_home d t v (get_or ns r 0) ≡ map_home d t v (get_or ns q 0)
      → r ≡ q

  abbrev is_maps : ℕ → Bool
  is_maps i = is_kind Kind.Maps (kind_of (section_in d t v i))

  -- only a symbol's map is made from a `maps` section
  abbrev KindedSource : MapSource → Type 0
  KindedSource (MapSource.Section i) = is_maps i ≡ false
  KindedSource (MapSource.Symbol j) = is_maps (home_at d t v j) ≡ true

  abbrev Kinded : ℕ → Type 0
  Kinded n = KindedSource (map_source_of v.sections n)

  all_map : (P : ℕ → Type 0) (f : ℕ → ℕ) (l : List ℕ) → All (λ j. P (f j)) l → All P (map f l)
  all_map P f [] a = tt
  all_map P f (x ∷ l) a = (a.0, all_map P f l a.1)

  symbol-kinded : (i j : ℕ) → is_maps i ≡ true → home_at d t v j ≡ i → Kinded (map_number_of v.sections (MapSource.Symbol j))
  symbol-kinded i j m e = rw (number_source v.sections (MapSource.Symbol j) tt, e) m

  section-kinded : (i : ℕ) → i < v.sections → is_maps i ≡ false → Kinded (map_number_of v.sections (MapSource.Section i))
  section-kinded i l m = rw (number_source v.sections (MapSource.Section i) l) m

  abbrev lies_at : ℕ → ℕ → Bool
  lies_at i j = lies_in (section_in d t v i).index (symbol_in d t v j).section

  kinded-in : Readable d t v → (i : ℕ) → i < v.sections → All Kinded (maps_from d t v i)
  unfolding maps_in members
  kinded-in readable i l = go (is_maps i) (is_data (kind_of (section_in d t v i))) refl
    where
      number_of : ℕ → ℕ
      number_of j = map_number_of v.sections (MapSource.Symbol j)

      go : (b c : Bool) → is_maps i ≡ b
          → All Kinded (cond b (map number_of (keep (lies_at i) (up_to v.symbols))) (cond c (map_number_of v.sections (MapSource.Section i) ∷ []) []))
      go true c m =
          all_map Kinded number_of (keep (lies_at i) (up_to v.symbols))
          (all_keep (λ j. Kinded (number_of j)) (lies_at i) (up_to v.symbols)
          (λ j q. symbol-kinded i j m (home-is v.order (section_in d t v) v.sections (symbol_in d t v) v.symbols (rising d t v readable.sections-rise) i j l q)))
      go false true m = (section-kinded i l m, tt)
      go false false m = tt

  kinded : Readable d t v → (q : ℕ) → q < length (map_numbers d t v) → Kinded (get_or (map_numbers d t v) q 0)
  unfolding map_numbers map_candidates
  kinded readable q l =
      all-∈ Kinded (get_or (map_numbers d t v) q 0) (map_candidates d t v) (all-rows Kinded (maps_from d t v) v.sections (kinded-in readable))
      (table-members (key_of By.MapName d t v) (get_or (map_numbers d t v) q 0) (map_candidates d t v) (get_or-∈ (map_numbers d t v) q l))

  sorted-numbers : Sorted (key_of By.MapName d t v) (map_numbers d t v)
  unfolding map_numbers
  sorted-numbers = sorted-table (key_of By.MapName d t v) (map_candidates d t v)

  pub numbers-alone : Readable d t v → Alone (map_numbers d t v)
  unfolding map_home
  numbers-alone readable q r l k s e = go (map_source_of v.sections x) (map_source_of v.sections y) refl refl s e (kinded readable q l) (kinded readable r k)
    where
      x : ℕ
      x = get_or (map_numbers d t v) q 0

      y : ℕ
      y = get_or (map_numbers d t v) r 0

      go : (a b : MapSource) → map_source_of v.sections x ≡ a → map_source_of v.sections y ≡ b → IsSection a → source_home d t v b ≡ source_home d t v a
          → KindedSource a → KindedSource b → r ≡ q
      go (MapSource.Section i) (MapSource.Section j) f g s e m n =
          once (key_of By.MapName d t v) (map_numbers d t v) sorted-numbers q r l k (sym (of-section v.sections y j g) ∙ e ∙ of-section v.sections x i f)
      go (MapSource.Section i) (MapSource.Symbol j) f g s e m n = true-not-false (sym n ∙ ap is_maps e ∙ m)
      go (MapSource.Symbol i) b f g s e m n = absurd s
