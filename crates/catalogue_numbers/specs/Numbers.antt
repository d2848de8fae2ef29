-- The record numbers of each table of the catalogue, and what a number stands for.
use Rattle.std.specs.Prelude.{◌≡◌, Bool, true, ℕ, ◌+◌, ◌<◌}
use Rattle.std.proofs.Math.Path.{refl, sym, ap}
use Rattle.std.proofs.Common.{◌∙◌}
use mathlib.Core.List.{List, [], ◌∷◌, map}
use Rattle.lists.specs.Tab.{rows}
use Rattle.model.specs.declared.Endianness.{Endianness}
use Rattle.object_view.specs.declared.View.{View}
use Rattle.model.specs.declared.EbpfSectionKind.{EbpfSectionKind as Kind}
use Rattle.model.specs.Bytes.{is_some}
use Rattle.model.specs.Catalogue.{SectionEntry, Program, Function, Map, Relocation}
use Rattle.model.specs.Contents.{catalogue_of}
use Rattle.model.specs.ProgramName.{program_of}
use Rattle.model.specs.SectionKind.{is_kind, kind_of}
use Rattle.model.specs.Table.{table_of}
use Rattle.catalogue_laws.specs.ByNumber.{raw_section}
use Rattle.catalogue_laws.specs.FunctionsMaps.{function_numbers_in, function_in, functions-are, maps_in, map_in, source_name_bytes, map_name_of_number, maps-are}
use Rattle.catalogue_laws.specs.Relocations.{keeps, relocations_in, relocations-are}
use Rattle.catalogue_laws.specs.SectionsPrograms.{home, sections_in, entry_in, sections-are, programs_in, program_in, programs-are}
use Rattle.records.specs.declared.MapSource.{MapSource}
use Rattle.records.specs.View.{name_in, section_at, symbol_at}
use Rattle.records.specs.Maps.{map_source_of, source_name as name_at, map_name_at}
use Rattle.records.specs.Readable.{Readable}
use Rattle.object.specs.View.{section_from, symbol_from, section_in, symbol_in, reloc_in, object_in, rising}
use Rattle.record_keys.specs.declared.By.{By}
use Rattle.record_keys.specs.Keys.{key_of}
use Rattle.symbol_groups.specs.Cut.{raw-is}

module _ (d t : List ℕ) (v : View) where
  abbrev order : Endianness
  order = v.order

  -- the section that a symbol lies in, by number; 0 where there is none
  abbrev pub home_at : ℕ → ℕ
  home_at = home order (section_in d t v) v.sections (symbol_in d t v) v.symbols

  -- ---- the numbers that the sections list one after the other

  abbrev pub sections_from : ℕ → List ℕ
  sections_from = sections_in order (section_in d t v) v.sections (symbol_in d t v) v.symbols

  abbrev pub programs_from : ℕ → List ℕ
  programs_from = programs_in order (section_in d t v) v.sections (symbol_in d t v) v.symbols

  abbrev pub functions_from : ℕ → List ℕ
  functions_from = function_numbers_in order (section_in d t v) v.sections (symbol_in d t v) v.symbols

  abbrev pub maps_from : ℕ → List ℕ
  maps_from = maps_in order (section_in d t v) v.sections (symbol_in d t v) v.symbols

  unfoldable pub section_candidates : List ℕ
  section_candidates = rows sections_from v.sections

  unfoldable pub program_candidates : List ℕ
  program_candidates = rows programs_from v.sections

  unfoldable pub function_candidates : List ℕ
  function_candidates = rows functions_from v.sections

  unfoldable pub map_candidates : List ℕ
  map_candidates = rows maps_from v.sections

  -- ---- what a number stands for

  abbrev pub section_entry_at : ℕ → SectionEntry
  section_entry_at = entry_in order (section_in d t v) v.sections (symbol_in d t v) v.symbols

  abbrev pub program_by_number : ℕ → Program
  program_by_number = program_in order (section_in d t v) v.sections (symbol_in d t v) v.symbols

  abbrev pub function_by_number : ℕ → Function
  function_by_number = function_in order (section_in d t v) v.sections (symbol_in d t v) v.symbols

  abbrev pub map_at : ℕ → Map
  map_at = map_in order (section_in d t v) v.sections (symbol_in d t v) v.symbols

  -- ---- the tables of numbers

  unfoldable pub section_numbers : List ℕ
  section_numbers = table_of (key_of By.SectionName d t v) section_candidates

  unfoldable pub program_numbers : List ℕ
  program_numbers = table_of (key_of By.SymbolName d t v) program_candidates

  unfoldable pub function_numbers : List ℕ
  function_numbers = table_of (key_of By.SymbolAddress d t v) function_candidates

  unfoldable pub map_numbers : List ℕ
  map_numbers = table_of (key_of By.MapName d t v) map_candidates

  -- ---- their keys are those of the object's tables

  section-name-key : key_of By.SectionName d t v ≡ (λ i. (section_in d t v i).name)
  unfolding key_of section_from
  section-name-key = refl

  symbol-name-key : key_of By.SymbolName d t v ≡ (λ j. (symbol_in d t v j).name)
  unfolding key_of symbol_from
  symbol-name-key = refl

  address_is : (j : ℕ) → (symbol_at d t v j).address ≡ (symbol_in d t v j).address
  unfolding symbol_from
  address_is j = refl

  address-key : key_of By.SymbolAddress d t v ≡ (λ j. raw_section (symbol_in d t v j) ∷ (symbol_in d t v j).address ∷ [])
  unfolding key_of
  address-key = λ k j. (let e : (symbol_at d t v j).section.0 ≡ raw_section (symbol_in d t v j) = sym (raw-is d t v (symbol_at d t v j)) in e k) ∷ address_is j k ∷ []

  map-name-key : key_of By.MapName d t v ≡ map_name_of_number order (section_in d t v) v.sections (symbol_in d t v) v.symbols
  unfolding key_of map_name_at section_from symbol_from
  map-name-key = λ k n. go (map_source_of v.sections n) k
    where
      go : (s : MapSource) → name_in d v (name_at d t v s) ≡ source_name_bytes order (section_in d t v) v.sections (symbol_in d t v) v.symbols s
      go (MapSource.Section i) = refl
      go (MapSource.Symbol j) = refl

  -- ---- the catalogue's tables

  -- no section is refused with 8
  abbrev pub Named : Type 0
  Named = (i : ℕ) → i < v.sections → is_kind Kind.Program (kind_of (section_in d t v i)) ≡ true → is_some (program_of (section_in d t v i).name) ≡ true

  pub sections-by : (catalogue_of (object_in d t v)).sections ≡ map section_entry_at section_numbers
  unfolding object_in section_numbers section_candidates
  sections-by = sections-are order (section_in d t v) v.sections (symbol_in d t v) v.symbols ∙ ap (λ key. map section_entry_at (table_of key section_candidates)) (sym section-name-key)

  pub programs-by : Readable d t v → Named → (catalogue_of (object_in d t v)).programs ≡ map program_by_number program_numbers
  unfolding object_in program_numbers program_candidates
  programs-by r named =
      programs-are order (section_in d t v) v.sections (symbol_in d t v) v.symbols (rising d t v r.sections-rise) named ∙ ap (λ key. map program_by_number (table_of key program_candidates)) (sym symbol-name-key)

  pub functions-by : Readable d t v → (catalogue_of (object_in d t v)).functions ≡ map function_by_number function_numbers
  unfolding object_in function_numbers function_candidates
  functions-by r =
      functions-are order (section_in d t v) v.sections (symbol_in d t v) v.symbols (rising d t v r.sections-rise) ∙ ap (λ key. map function_by_number (table_of key function_candidates)) (sym address-key)

  pub maps-by : Readable d t v → (catalogue_of (object_in d t v)).maps ≡ map map_at map_numbers
  unfolding object_in map_numbers map_candidates
  maps-by r =
      maps-are order (section_in d t v) v.sections (symbol_in d t v) v.symbols (rising d t v r.sections-rise) ∙ ap (λ key. map map_at (table_of key map_candidates)) (sym map-name-key)

  -- ---- relocations: those of each section that keeps any

  abbrev pub first_of : ℕ → ℕ
  first_of i = (section_at d t v i).relocations.at

  abbrev pub count_of : ℕ → ℕ
  count_of i = (section_at d t v i).relocations.length

  abbrev pub relocations_from : ℕ → List Relocation
  relocations_from = relocations_in order (section_in d t v) v.sections (symbol_in d t v) v.symbols (reloc_in d t v) first_of count_of

  -- whether a section keeps its relocations
  abbrev pub keeps_at : ℕ → Bool
  keeps_at = keeps order (section_in d t v) v.sections (symbol_in d t v) v.symbols (reloc_in d t v) first_of count_of

  -- no section that keeps any is refused with 4
  abbrev pub Targeted : Type 0
  Targeted = (i : ℕ) → i < v.sections → keeps_at i ≡ true → (k : ℕ) → k < count_of i → is_some (reloc_in d t v (first_of i + k)).symbol ≡ true

  pub relocations-by : Readable d t v → Targeted → (catalogue_of (object_in d t v)).relocations ≡ rows relocations_from v.sections
  unfolding object_in section_from
  relocations-by r targeted =
      relocations-are order (section_in d t v) v.sections (symbol_in d t v) v.symbols (reloc_in d t v) first_of count_of (rising d t v r.sections-rise)
      (record { runs = λ i l. refl; targeted = targeted })
