-- Demand 3 on worked objects: its hypotheses are met, patches and rewriting change what it says, and without either proviso its first half fails.
use Rattle.std.specs.Prelude.{◌≡◌, refl, Bool, true, false, List, [], ◌∷◌, map, ℕ, ℤ, pos, get_or, Some}
use Rattle.std.proofs.Common.{sym, ap, ◌∙◌, inl, inr, arith}
use Rattle.lists.specs.Tab.{tab}
use Rattle.model.specs.declared.Endianness.{Endianness}
use Rattle.model.specs.declared.SymbolKind.{SymbolKind}
use Rattle.model.specs.Bytes.{ascii, keep, each, first_in, find, same, starts_with, before, little, little_bytes, ◌∈◌}
use Rattle.model.specs.Object.{Section, Symbol, Object, Patch}
use Rattle.model.specs.SectionKind.{from_name, or_program, kind_of}
use Rattle.model.specs.ProgramName.{readings, cut, fits, program_of, from_str}
use Rattle.model.specs.LicenceVersion.{has_zero, parse_license, number, version_in, parse_version}
use Rattle.model.specs.Instruction.{signed, instruction_of, instructions, invalid_program_code, stated, stated_for, rewrite}
use Rattle.model.specs.Table.{put, table_of}
use Rattle.model.specs.Catalogue.{Catalogue}
use Rattle.model.specs.Symbols.{symbols_of, is_program, program_symbols, defined_text, text_symbol_at, stops, walk_of, first_named}
use Rattle.model.specs.Contents.{licence_of, version_of, section_entries, program_at, programs_of, function_at, program_function, text_function, functions_of, words_of, invalid_map_definition, record_of, legacy_map, data_words, data_map, maps_of, relocation_of, relocations_of, catalogue_of}
use Rattle.model.specs.Refusals.{untargeted, reloc_refusal, licence_refusal, version_refusal, passes, program_symbol_refusal, program_refusal, map_symbol_refusal, maps_refusal, shared_refusal, stop_refusal, text_refusal, kind_refusal, section_refusal, object_refusal, bearers, place_refusal, bearer_refusal, entry_refusal, patch_refusal, refusal_of}
use Rattle.model.specs.Patching.{patch_map, with_maps, patch_maps, patched, rewrite_function, rewritten, Verdict, accepted, finish, load}
use Rattle.guarantees.specs.WordsOfDemand3.{Stands, FirstHalf, given_by, last_given, map_after, instruction_after, function_after, after}
use Rattle.guarantees.proofs.FirstHalf.{first-half}
use Rattle.guarantees.specs.ProvisosDecided.{is_named, distinct, none_named, maps_free, is_fair, fair-is, rising, all_bytes, all_data, is_stated, stated-is}

-- every definition that a load of an object runs through
unfoldable pub computed_load : Object → List Patch → Bool → Verdict
unfolding keep each first_in find same starts_with before little little_bytes from_name or_program kind_of readings cut fits program_of from_str has_zero parse_license number version_in parse_version signed instruction_of instructions invalid_program_code stated stated_for rewrite put table_of symbols_of is_program program_symbols defined_text text_symbol_at stops walk_of first_named licence_of version_of section_entries program_at programs_of function_at program_function text_function functions_of words_of invalid_map_definition record_of legacy_map data_words data_map maps_of relocation_of relocations_of catalogue_of untargeted reloc_refusal licence_refusal version_refusal passes program_symbol_refusal program_refusal map_symbol_refusal maps_refusal shared_refusal stop_refusal text_refusal kind_refusal section_refusal object_refusal bearers place_refusal bearer_refusal entry_refusal patch_refusal refusal_of patch_map with_maps patch_maps patched rewrite_function rewritten finish load
computed_load o ps on = load o ps on

abbrev pub section : ℕ → Bool → List ℕ → ℕ → List ℕ → Section
section i text name size d = record { index = record { 0 = i }; text = text; name = name; address = 0; size = size; bytes = d; relocs = [] }

abbrev pub symbol : ℕ → ℕ → List ℕ → ℕ → SymbolKind → Symbol
symbol i s name size k = record { index = record { 0 = i }; section = Some (record { 0 = s }); name = name; address = 0; size = size; kind = k; definition = true }

abbrev pub object : List Section → List Symbol → Object
object ss ys = record { order = Endianness.Little; sections = ss; symbols = ys }

-- ---- the hypotheses of the first half are met

-- document 01's listing, with a program section of 16 bytes of which `pass` covers 8, and a `.data`
pub sample : ℕ → Object
sample x =
    object
    (section 1 true (ascii ".text") 16 (183 ∷ 0 ∷ 0 ∷ 0 ∷ 0 ∷ 0 ∷ 0 ∷ 0 ∷ 149 ∷ 0 ∷ 0 ∷ 0 ∷ 0 ∷ 0 ∷ 0 ∷ 0 ∷ [])
    ∷ section 2 true (ascii "xdp") 16 (0x85 ∷ 0 ∷ 0 ∷ 0 ∷ 113 ∷ 0 ∷ 0 ∷ 0 ∷ x ∷ 0 ∷ 0 ∷ 0 ∷ 0 ∷ 0 ∷ 0 ∷ 0 ∷ [])
    ∷ section 3 false (ascii ".data") 4 (1 ∷ 2 ∷ 3 ∷ 4 ∷ [])
    ∷ [])
    (symbol 1 1 (ascii "helper") 16 SymbolKind.Text ∷ symbol 2 2 (ascii "pass") 8 SymbolKind.Text ∷ symbol 3 3 (ascii "rate") 4 SymbolKind.Data ∷ [])

-- two objects that differ in a byte that no listed function covers
same-catalogue : FirstHalf (sample 1) (sample 2) (catalogue_of (sample 1)) × FirstHalf (sample 2) (sample 1) (catalogue_of (sample 1))
unfolding computed_load sample is_named distinct none_named maps_free is_fair rising all_bytes all_data is_stated
same-catalogue =
    first-half (sample 1) (sample 2) (catalogue_of (sample 1)) (stated-is (sample 1) refl) (stated-is (sample 2) refl) refl refl (fair-is (sample 1) refl) (fair-is (sample 2) refl)

-- ---- the second half: one entry that reaches, one passed over, and one that reaches again

pub patches : List Patch
patches =
    record { inside = true; name = ascii "rate"; bytes = 5 ∷ 6 ∷ 7 ∷ 8 ∷ []; mark = 1 }
    ∷ record { inside = true; name = ascii "other"; bytes = 9 ∷ []; mark = 0 }
    ∷ record { inside = true; name = ascii "rate"; bytes = 50 ∷ 60 ∷ 70 ∷ 80 ∷ []; mark = 0 }
    ∷ []

patched-sample : load (sample 1) patches true ≡ accepted (after (sample 1) patches true (catalogue_of (sample 1)))
unfolding computed_load sample patches tab given_by last_given map_after instruction_after function_after after
patched-sample = refl

-- the last entry that reaches gives the bytes, and the call's immediate 113 becomes 4
abbrev pub owns : Catalogue → List (List ℕ)
owns c = map (λ m. m.own) c.maps

abbrev pub immediates : Catalogue → List (List ℤ)
immediates c = map (λ f. map (λ i. i.imm) f.code) c.functions

patched-values : (owns (catalogue_of (sample 1)) ≡ (1 ∷ 2 ∷ 3 ∷ 4 ∷ []) ∷ [])
    × (owns (after (sample 1) patches true (catalogue_of (sample 1))) ≡ (50 ∷ 60 ∷ 70 ∷ 80 ∷ []) ∷ [])
    × (immediates (catalogue_of (sample 1)) ≡ (pos 0 ∷ pos 0 ∷ []) ∷ (pos 113 ∷ []) ∷ [])
    × (immediates (after (sample 1) patches true (catalogue_of (sample 1))) ≡ (pos 0 ∷ pos 0 ∷ []) ∷ (pos 4 ∷ []) ∷ [])
unfolding computed_load sample patches tab given_by last_given map_after instruction_after function_after after
patched-values = (refl, refl, refl, refl)

-- ---- each proviso is needed

-- s does not stand among two sections, the first of another byte and the second of another index
absent : (ys : List Symbol) (s t u : Section) → (get_or t.bytes 0 0 ≡ get_or s.bytes 0 0 → ⊥) → (u.index.0 ≡ s.index.0 → ⊥)
    → Stands (object (t ∷ u ∷ []) ys) s → ⊥
absent ys s t u p q h = go h.among
  where
    go : h.section ∈ (t ∷ u ∷ []) → ⊥
    go (inl e) = p (ap (λ (d : List ℕ). get_or d 0 0) (sym (ap (λ x. x.bytes) e) ∙ h.bytes))
    go (inr (inl e)) = q (ap (λ x. x.0) (sym (ap (λ x. x.index) e) ∙ h.index))
    go (inr (inr m)) = m

abbrev data1 : ℕ → Section
data1 x = section 1 false (ascii ".data") 1 (x ∷ [])

-- a section name used twice: one catalogue, and the first `.data` differs
abbrev data2 : Section
data2 = section 2 false (ascii ".data") 1 (7 ∷ [])

name_twice : ℕ → Object
name_twice x = object (data1 x ∷ data2 ∷ []) []

names-needed : (load (name_twice 1) [] false ≡ accepted (catalogue_of (name_twice 1)))
    × (load (name_twice 2) [] false ≡ accepted (catalogue_of (name_twice 1)))
    × (maps_free (name_twice 1) (name_twice 1).sections ≡ true)
    × (maps_free (name_twice 2) (name_twice 2).sections ≡ true)
    × (FirstHalf (name_twice 1) (name_twice 2) (catalogue_of (name_twice 1)) → ⊥)
unfolding computed_load name_twice is_named none_named maps_free
names-needed =
    (refl, refl, refl, refl, λ h. absent [] (data1 1) (data1 2) data2 (omega arith) (omega arith) (h.whole (data1 1) (inl refl) (inr (inl refl))))

-- a symbol of a `maps` section that bears the name of `.data`: its map replaces that of `.data`
abbrev maps2 : Section
maps2 = section 2 false (ascii "maps") 20 (1 ∷ 0 ∷ 0 ∷ 0 ∷ 4 ∷ 0 ∷ 0 ∷ 0 ∷ 4 ∷ 0 ∷ 0 ∷ 0 ∷ 1 ∷ 0 ∷ 0 ∷ 0 ∷ 0 ∷ 0 ∷ 0 ∷ 0 ∷ [])

abbrev namesake : Symbol
namesake = symbol 1 2 (ascii ".data") 20 SymbolKind.Data

map_named : ℕ → Object
map_named x = object (data1 x ∷ maps2 ∷ []) (namesake ∷ [])

map-names-needed : (load (map_named 1) [] false ≡ accepted (catalogue_of (map_named 1)))
    × (load (map_named 2) [] false ≡ accepted (catalogue_of (map_named 1)))
    × (distinct (map_named 1).sections ≡ true)
    × (distinct (map_named 2).sections ≡ true)
    × (FirstHalf (map_named 1) (map_named 2) (catalogue_of (map_named 1)) → ⊥)
unfolding computed_load map_named is_named distinct
map-names-needed =
    (refl, refl, refl, refl, λ h. absent (namesake ∷ []) (data1 1) (data1 2) maps2 (omega arith) (omega arith) (h.whole (data1 1) (inl refl) (inr (inl refl))))
