-- The function table and the map table as tables of numbers.
use Rattle.std.specs.Prelude.{◌≡◌, Bool, leb, ltb, length, None, Option, Some}
use Rattle.std.proofs.Math.Path.{refl, ap}
use Rattle.std.proofs.Common.{sym, ◌∙◌, inl, inr, arith, eqb-true}
use Rattle.std.proofs.Math.Bool.{true, false, cond}
use mathlib.Core.List.{List, [], ◌∷◌, ◌++◌, map}
use Prim.Native.Nat.{ℕ, zero, suc, ◌+◌, ◌<◌}
use Rattle.std.proofs.Math.Dec.{eqb}
use Rattle.lists.specs.Tab.{tab, rows}
use Rattle.lists.specs.Tests.{not_some, true-not-false}
use Rattle.model.specs.declared.SectionIndex.{SectionIndex}
use Rattle.model.specs.declared.Endianness.{Endianness}
use Rattle.model.specs.declared.EbpfSectionKind.{EbpfSectionKind as Kind}
use Rattle.model.specs.Bytes.{keep, each, first_in, find, or_else, maybe, ◌∈◌}
use Rattle.model.specs.Object.{Section, Symbol, Object}
use Rattle.model.specs.SectionKind.{is_kind, kind_of}
use Rattle.model.specs.Table.{table_of}
use Rattle.model.specs.Catalogue.{Function, Map, function_key, map_key}
use Rattle.model.specs.Symbols.{top, lies_in, symbols_of, program_symbols, walk_of}
use Rattle.model.specs.Contents.{program_function, function_at, text_function, functions_of, legacy_map, data_map, is_data, maps_of, catalogue_of}
use Rattle.orders.specs.Sort.{pick, insert, sorted}
use Rattle.records.specs.declared.MapSource.{MapSource}
use Rattle.records.specs.Maps.{map_number_of, map_source_of, number_source}
use Rattle.catalogue_laws.specs.Numbers.{each-tab}
use Rattle.catalogue_laws.specs.Tables.{table-map, table_on}
use Rattle.catalogue_laws.specs.Shared.{by_address}
use Rattle.catalogue_laws.specs.ByNumber.{members, program_members, text_members, text_order, number_at, symbols-by, programs-by, raw_section}
use Rattle.catalogue_laws.specs.Walk.{number_in, walk_numbers, text_function_of, functions-met}
use Rattle.catalogue_laws.specs.SectionsPrograms.{rows-map, rows_ext, All, map_on, all_keep, all-kept, whole, IndexesRising, home, home-is}

-- ---- what all of a list have, its sorted form and what is found in it have

module _ (P : ℕ → Type 0) where
  all_insert : (le : ℕ → ℕ → Bool) (x : ℕ) (l : List ℕ) → P x → All P l → All P (insert le x l)
  unfolding insert
  all_insert le x [] h a = (h, tt)
  all_insert le x (y ∷ l) h a = go (le x y) (all_insert le x l h a.1)
    where
      go : (b : Bool) → All P (insert le x l) → All P (pick b (x ∷ y ∷ l) (y ∷ insert le x l))
      go true r = (h, a)
      go false r = (a.0, r)

  pub all-sorted : (le : ℕ → ℕ → Bool) (l : List ℕ) → All P l → All P (sorted le l)
  unfolding sorted
  all-sorted le [] a = tt
  all-sorted le (x ∷ l) a = all_insert le x (sorted le l) a.0 (all-sorted le l a.1)

  pub all_found : (p : ℕ → Bool) (l : List ℕ) (j : ℕ) → All P l → find p l ≡ Some j → P j
  unfolding find first_in
  all_found p [] j a h = not_some j (sym h)
  all_found p (x ∷ l) j a h = go (p x) h (all_found p l j a.1)
    where
      go : (b : Bool) → or_else (cond b (Some x) None) (first_in (λ y. cond (p y) (Some y) None) l) ≡ Some j
          → (first_in (λ y. cond (p y) (Some y) None) l ≡ Some j → P j) → P j
      go true q r = let e : x ≡ j = cc in rw (← e) a.0
      go false q r = r q

  pub all_append : (a b : List ℕ) → All P a → All P b → All P (a ++ b)
  all_append [] b h k = k
  all_append (x ∷ a) b h k = (h.0, all_append a b h.1 k)

  pub all-∈ : (x : ℕ) (l : List ℕ) → All P l → x ∈ l → P x
  all-∈ x [] a m = absurd m
  all-∈ x (y ∷ l) a (inl e) = rw e a.0
  all-∈ x (y ∷ l) a (inr m) = all-∈ x l a.1 m

  pub all-rows : (f : ℕ → List ℕ) (n : ℕ) → ((i : ℕ) → i < n → All P (f i)) → All P (rows f n)
  unfolding rows
  all-rows f zero h = tt
  all-rows f (suc n) h = all_append (rows f n) (f n) (all-rows f n (λ i l. h i (omega arith))) (h n (omega arith))

map-map : {A B : Type 0} (g : A → B) (f : ℕ → A) (l : List ℕ) → map g (map f l) ≡ map (λ j. g (f j)) l
map-map g f [] = refl
map-map g f (x ∷ l) = ap (λ m. g (f x) ∷ m) (map-map g f l)

module _ (e : Endianness) (sec : ℕ → Section) (S : ℕ) (at : ℕ → Symbol) (Y : ℕ) where
  -- a symbol that lies in section i of the object
  pub record Inside (i j : ℕ) : Type 0 where
    pub home_of : home e sec S at Y j ≡ i
    pub lies : lies_in (sec i).index (at j).section ≡ true

  pub inside : IndexesRising e sec S at Y → (i : ℕ) → i < S → All (Inside i) (members e (tab sec S) at Y (sec i))
  unfolding members
  inside rise i l = go (tab (λ j. j) Y)
    where
      go : (js : List ℕ) → All (Inside i) (keep (λ j. lies_in (sec i).index (at j).section) js)
      go js = all_keep (Inside i) (λ j. lies_in (sec i).index (at j).section) js
          (λ j h. record { home_of = home-is e sec S at Y rise i j l h; lies = h })

  pub inside-programs : IndexesRising e sec S at Y → (i : ℕ) → i < S → All (Inside i) (program_members e (tab sec S) at Y (sec i))
  unfolding program_members
  inside-programs rise i l = all-kept (Inside i) _ (members e (tab sec S) at Y (sec i)) (inside rise i l)

  inside-text : IndexesRising e sec S at Y → (i : ℕ) → i < S → All (Inside i) (text_order e (tab sec S) at Y (sec i))
  unfolding text_order text_members
  inside-text rise i l = all-sorted (Inside i) (by_address (λ j. (at j).address)) _ (all-kept (Inside i) _ (members e (tab sec S) at Y (sec i)) (inside rise i l))

  pub inside-walk : IndexesRising e sec S at Y → (i : ℕ) → i < S → (n o : ℕ) → All (Inside i) (walk_numbers e (tab sec S) at Y (sec i) n o)
  unfolding walk_numbers
  inside-walk rise i l zero o = tt
  inside-walk rise i l (suc n) o = go (ltb o (length (sec i).bytes)) (number_in e (tab sec S) at Y (sec i) o) refl (λ j. inside-walk rise i l n (o + (at j).size))
    where
      met : (b : Bool) (j : ℕ) → cond b (number_at e (tab sec S) at Y (sec i) ((sec i).address + o)) None ≡ Some j → Inside i j
      met true j q = all_found (Inside i) (λ k. eqb (at k).address ((sec i).address + o)) _ j (inside-text rise i l) q
      met false j q = not_some j (sym q)

      go : (b : Bool) (m : Option ℕ) → number_in e (tab sec S) at Y (sec i) o ≡ m
          → ((j : ℕ) → All (Inside i) (walk_numbers e (tab sec S) at Y (sec i) n (o + (at j).size)))
          → All (Inside i) (cond b (maybe m [] (λ j. j ∷ walk_numbers e (tab sec S) at Y (sec i) n (o + (at j).size))) [])
      go false m q r = tt
      go true None q r = tt
      go true (Some j) q r = (met (leb ((sec i).address + o) top) j q, r j)

  -- ---- functions

  unfoldable pub function_numbers_in : ℕ → List ℕ
  function_numbers_in i =
      cond (is_kind Kind.Program (kind_of (sec i))) (program_members e (tab sec S) at Y (sec i))
      (cond (is_kind Kind.Text (kind_of (sec i))) (walk_numbers e (tab sec S) at Y (sec i) (length (sec i).bytes) 0) [])

  abbrev pub function_of : ℕ → ℕ → Function
  function_of i j = cond (is_kind Kind.Program (kind_of (sec i))) (program_function (sec i) (at j)) (text_function_of e (tab sec S) at Y (sec i) j)

  -- the function of a symbol, by the section it lies in
  abbrev pub function_in : ℕ → Function
  function_in j = function_of (home e sec S at Y j) j

  lies-number : (i j : ℕ) → lies_in (sec i).index (at j).section ≡ true → (sec i).index.0 ≡ raw_section (at j)
  lies-number i j h = go (at j).section h
    where
      go : (o : Option SectionIndex) → lies_in (sec i).index o ≡ true → (sec i).index.0 ≡ maybe o 4294967295 (λ k. k.0)
      go None q = true-not-false (sym q)
      go (Some k) q = eqb-true _ _ q

  function-key : (i j : ℕ) → function_key (function_of i j) ≡ (sec i).index.0 ∷ (at j).address ∷ []
  unfolding program_function text_function_of function_at
  function-key i j = go (is_kind Kind.Program (kind_of (sec i)))
    where
      go : (b : Bool) → function_key (cond b (program_function (sec i) (at j)) (text_function_of e (tab sec S) at Y (sec i) j)) ≡ (sec i).index.0 ∷ (at j).address ∷ []
      go true = refl
      go false = refl

  -- a number of a section's functions
  pub record Listed (j : ℕ) : Type 0 where
    pub in-section : ℕ
    pub held : Inside in-section j

  listed_in : IndexesRising e sec S at Y → (i : ℕ) → i < S → All (Inside i) (function_numbers_in i)
  unfolding function_numbers_in
  listed_in rise i l = go (is_kind Kind.Program (kind_of (sec i))) (is_kind Kind.Text (kind_of (sec i)))
    where
      go : (b c : Bool) → All (Inside i) (cond b (program_members e (tab sec S) at Y (sec i)) (cond c (walk_numbers e (tab sec S) at Y (sec i) (length (sec i).bytes) 0) []))
      go true c = inside-programs rise i l
      go false true = inside-walk rise i l (length (sec i).bytes) 0
      go false false = tt

  as-listed : (i : ℕ) (js : List ℕ) → All (Inside i) js → All Listed js
  as-listed i [] a = tt
  as-listed i (j ∷ js) a = (record { in-section = i; held = a.0 }, as-listed i js a.1)

  key-is : (j : ℕ) → Listed j → function_key (function_in j) ≡ raw_section (at j) ∷ (at j).address ∷ []
  key-is j h =
      let i = h.in-section in
      let q : home e sec S at Y j ≡ i = h.held.home_of in
      ap (λ k. function_key (function_of k j)) q ∙ function-key i j ∙ ap (λ k. k ∷ (at j).address ∷ []) (lies-number i j h.held.lies)

  functions-in : IndexesRising e sec S at Y → (i : ℕ) → i < S → functions_of (whole e sec S at Y) (sec i) ≡ map function_in (function_numbers_in i)
  unfolding functions_of function_numbers_in walk_of
  functions-in rise i l = go (is_kind Kind.Program (kind_of (sec i))) (is_kind Kind.Text (kind_of (sec i))) refl
    where
      o : Object
      o = whole e sec S at Y

      go : (b c : Bool) → is_kind Kind.Program (kind_of (sec i)) ≡ b
          → cond b (map (program_function (sec i)) (program_symbols o (sec i))) (cond c (each (text_function (sec i)) (walk_of o (sec i))) [])
          ≡ map function_in (cond b (program_members e (tab sec S) at Y (sec i)) (cond c (walk_numbers e (tab sec S) at Y (sec i) (length (sec i).bytes) 0) []))
      go true c q =
          ap (map (program_function (sec i))) (programs-by e (tab sec S) at Y (sec i)) ∙ map-map (program_function (sec i)) at (program_members e (tab sec S) at Y (sec i))
          ∙ map_on (Inside i) (λ j. program_function (sec i) (at j)) function_in (program_members e (tab sec S) at Y (sec i)) (inside-programs rise i l) (λ j r. rw (r.home_of, q))
      go false true q =
          functions-met e (tab sec S) at Y (sec i) (length (sec i).bytes) 0
          ∙ map_on (Inside i) (text_function_of e (tab sec S) at Y (sec i)) function_in (walk_numbers e (tab sec S) at Y (sec i) (length (sec i).bytes) 0)
          (inside-walk rise i l (length (sec i).bytes) 0) (λ j r. rw (r.home_of, q))
      go false false q = refl

  pub functions-are : IndexesRising e sec S at Y
      → (catalogue_of (whole e sec S at Y)).functions ≡ map function_in (table_of (λ j. raw_section (at j) ∷ (at j).address ∷ []) (rows function_numbers_in S))
  unfolding catalogue_of
  functions-are rise =
      ap (table_of function_key) (each-tab (functions_of (whole e sec S at Y)) sec S ∙ rows_ext _ _ S (functions-in rise) ∙ rows-map function_in function_numbers_in S)
      ∙ table-map function_key function_in (rows function_numbers_in S)
      ∙ ap (map function_in) (table_on (λ j. function_key (function_in j)) (λ j. raw_section (at j) ∷ (at j).address ∷ []) (rows function_numbers_in S) (λ j m. key-is j (all-∈ Listed j (rows function_numbers_in S) all m)))
    where
      all : All Listed (rows function_numbers_in S)
      all = all-rows Listed function_numbers_in S (λ i l. as-listed i (function_numbers_in i) (listed_in rise i l))

  -- ---- maps, by what they are made from

  unfoldable pub maps_in : ℕ → List ℕ
  maps_in i =
      cond (is_kind Kind.Maps (kind_of (sec i))) (map (λ j. map_number_of S (MapSource.Symbol j)) (members e (tab sec S) at Y (sec i)))
      (cond (is_data (kind_of (sec i))) (map_number_of S (MapSource.Section i) ∷ []) [])

  abbrev pub map_of : MapSource → Map
  map_of (MapSource.Section i) = data_map (kind_of (sec i)) (sec i)
  map_of (MapSource.Symbol j) = legacy_map (sec (home e sec S at Y j)) (at j)

  abbrev pub map_in : ℕ → Map
  map_in n = map_of (map_source_of S n)

  -- its name
  abbrev pub source_name_bytes : MapSource → List ℕ
  source_name_bytes (MapSource.Section i) = (sec i).name
  source_name_bytes (MapSource.Symbol j) = (at j).name

  abbrev pub map_name_of_number : ℕ → List ℕ
  map_name_of_number n = source_name_bytes (map_source_of S n)

  pub name-of-map : (s : MapSource) → map_key (map_of s) ≡ source_name_bytes s
  unfolding data_map legacy_map
  name-of-map (MapSource.Section i) = refl
  name-of-map (MapSource.Symbol j) = refl

  maps-in : IndexesRising e sec S at Y → (i : ℕ) → i < S → maps_of (whole e sec S at Y) (sec i) ≡ map map_in (maps_in i)
  unfolding maps_of maps_in
  maps-in rise i l = go (is_kind Kind.Maps (kind_of (sec i))) (is_data (kind_of (sec i)))
    where
      o : Object
      o = whole e sec S at Y

      number_of : ℕ → ℕ
      number_of j = map_number_of S (MapSource.Symbol j)

      legacy : (j : ℕ) → Inside i j → legacy_map (sec i) (at j) ≡ map_in (number_of j)
      legacy j h = rw (number_source S (MapSource.Symbol j) tt, h.home_of)

      go : (b c : Bool) → cond b (map (legacy_map (sec i)) (symbols_of o (sec i))) (cond c (data_map (kind_of (sec i)) (sec i) ∷ []) [])
          ≡ map map_in (cond b (map number_of (members e (tab sec S) at Y (sec i))) (cond c (map_number_of S (MapSource.Section i) ∷ []) []))
      go true c =
          ap (map (legacy_map (sec i))) (symbols-by e (tab sec S) at Y (sec i)) ∙ map-map (legacy_map (sec i)) at (members e (tab sec S) at Y (sec i))
          ∙ map_on (Inside i) (λ j. legacy_map (sec i) (at j)) (λ j. map_in (number_of j)) (members e (tab sec S) at Y (sec i)) (inside rise i l) legacy
          ∙ sym (map-map map_in number_of (members e (tab sec S) at Y (sec i)))
      go false true = rw (number_source S (MapSource.Section i) l)
      go false false = refl

  pub maps-are : IndexesRising e sec S at Y → (catalogue_of (whole e sec S at Y)).maps ≡ map map_in (table_of map_name_of_number (rows maps_in S))
  unfolding catalogue_of
  maps-are rise =
      ap (table_of map_key) (each-tab (maps_of (whole e sec S at Y)) sec S ∙ rows_ext _ _ S (maps-in rise) ∙ rows-map map_in maps_in S)
      ∙ table-map map_key map_in (rows maps_in S)
      ∙ ap (map map_in) (table_on (λ n. map_key (map_in n)) map_name_of_number (rows maps_in S) (λ n m. name-of-map (map_source_of S n)))
