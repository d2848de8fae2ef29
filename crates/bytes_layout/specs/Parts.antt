-- The parts of a lent catalogue's bytes, by the numbers of its tables.
use Rattle.std.specs.Prelude.{◌≡◌, None}
use Rattle.std.proofs.Math.Path.{refl, sym, ap}
use Rattle.std.proofs.Common.{◌∙◌}
use mathlib.Core.List.{List}
use Prim.Native.Nat.{ℕ}
use Rattle.object_view.specs.declared.View.{View}
use Rattle.model.specs.Bytes.{each}
use Rattle.model.specs.Catalogue.{Catalogue}
use Rattle.model.specs.Contents.{licence_of, catalogue_of, program_at as program_of, function_at as function_of}
use Rattle.model.specs.Lent.{section_name, program_name, function_name, function_code, map_name, map_own}
use Rattle.model.specs.Refusals.{object_refusal}
use Rattle.catalogue_laws.specs.Numbers.{each_map}
use Rattle.catalogue_laws.specs.FunctionsMaps.{map_name_of_number as mapKeyName, name-of-map}
use Rattle.object.specs.View.{section_in, symbol_in, object_in}
use Rattle.catalogue_numbers.specs.Function.{function-is}
use Rattle.catalogue_numbers.specs.Numbers.{section_numbers, program_numbers, function_numbers, map_numbers, section_entry_at, program_by_number, function_by_number, map_at, sections-by, programs-by, functions-by, maps-by}
use Rattle.accepted_numbers.specs.Numbers.{named}
use Rattle.records.specs.Maps.{map_source_of}
use Rattle.records.specs.Readable.{Readable}
use Rattle.bytes_names.specs.declared.Piece.{Piece}
use Rattle.bytes_names.specs.Pieces.{piece_of, section-piece, symbol-piece, map-piece}

module _ (d t : List ℕ) (v : View) where
  abbrev pub catalogue : Catalogue
  catalogue = catalogue_of (object_in d t v)

  module _ (r : Readable d t v) (ok : object_refusal (object_in d t v) ≡ None) where
    pub licence-is : catalogue.licence ≡ licence_of (object_in d t v)
    unfolding catalogue_of
    licence-is = refl

    pub section-names : each section_name catalogue.sections ≡ each (piece_of Piece.SectionName d t v) (section_numbers d t v)
    section-names =
        ap (each section_name) (sections-by d t v) ∙ each_map section_name (section_entry_at d t v) (section_numbers d t v)
        ∙ ap (λ (g : ℕ → List ℕ). each g (section_numbers d t v)) (λ k j. sym (section-piece d t v j) k)

    pub program-names : each program_name catalogue.programs ≡ each (piece_of Piece.SymbolName d t v) (program_numbers d t v)
    unfolding program_of
    program-names =
        ap (each program_name) (programs-by d t v r (named d t v ok)) ∙ each_map program_name (program_by_number d t v) (program_numbers d t v)
        ∙ ap (λ (g : ℕ → List ℕ). each g (program_numbers d t v)) (λ k j. sym (symbol-piece d t v j) k)

    name-of-function : (j : ℕ) → function_name (function_by_number d t v j) ≡ (symbol_in d t v j).name
    unfolding function_of
    name-of-function j = ap function_name (function-is d t v j)

    pub function-names : each function_name catalogue.functions ≡ each (piece_of Piece.SymbolName d t v) (function_numbers d t v)
    function-names =
        ap (each function_name) (functions-by d t v r) ∙ each_map function_name (function_by_number d t v) (function_numbers d t v)
        ∙ ap (λ (g : ℕ → List ℕ). each g (function_numbers d t v)) (λ k j. (name-of-function j ∙ sym (symbol-piece d t v j)) k)

    pub function-code : each function_code catalogue.functions ≡ each (λ j. function_code (function_by_number d t v j)) (function_numbers d t v)
    function-code = ap (each function_code) (functions-by d t v r) ∙ each_map function_code (function_by_number d t v) (function_numbers d t v)

    name-is : (n : ℕ) → map_name (map_at d t v n) ≡ mapKeyName v.order (section_in d t v) v.sections (symbol_in d t v) v.symbols n
    name-is n = name-of-map v.order (section_in d t v) v.sections (symbol_in d t v) v.symbols (map_source_of v.sections n)

    pub map-names : each map_name catalogue.maps ≡ each (piece_of Piece.MapName d t v) (map_numbers d t v)
    map-names =
        ap (each map_name) (maps-by d t v r) ∙ each_map map_name (map_at d t v) (map_numbers d t v)
        ∙ ap (λ (g : ℕ → List ℕ). each g (map_numbers d t v)) (λ k n. (name-is n ∙ sym (map-piece d t v n)) k)

    pub map-own : each map_own catalogue.maps ≡ each (λ n. map_own (map_at d t v n)) (map_numbers d t v)
    map-own = ap (each map_own) (maps-by d t v r) ∙ each_map map_own (map_at d t v) (map_numbers d t v)
