-- The listing's text from an answer and the lent tables, with the function table as numbers, seven a row.
use Rattle.model.specs.declared.Refusal.{Refusal}
use Rattle.std.specs.Prelude.{List, [], ◌∷◌, ◌++◌, ℕ, ◌*◌, ◌≤◌, length, get_or, take, Err, Ok, Option, Result}
use Rattle.model.specs.declared.Function.{Function as FunctionRow}
use Rattle.model.specs.declared.Summary.{Summary}
use Rattle.model.specs.Bytes.{ascii, each, records}
use Rattle.model.specs.Catalogue.{Function}
use Rattle.model.specs.Lent.{range}
use Rattle.model.specs.Listing.{line, version_text, program_line, function_line, map_line, refusal_text}
use Rattle.model.specs.ReadBack.{program_read, function_read, map_read}

-- a function's seven numbers: section, address, offset, name at, name length, code at, code length
unfoldable pub row_from : List ℕ → FunctionRow
row_from r =
    record {
      section = record { 0 = get_or r 0 0 };
      address = get_or r 1 0;
      offset = get_or r 2 0;
      name = range (get_or r 3 0) (get_or r 4 0);
      code = range (get_or r 5 0) (get_or r 6 0);
    }

abbrev pub function_from : List ℕ → List ℕ → Function
function_from b r = function_read b (row_from r)

unfoldable pub top_text : List ℕ → Option ℕ → List ℕ
top_text licence version = line (ascii "license") (licence ∷ []) ++ line (ascii "version") (version_text version ∷ [])

unfoldable pub flat_text : Summary → List ℕ → List ℕ → List ℕ → List ℕ → List ℕ
flat_text h programs functions maps bytes =
    top_text (take h.license bytes) h.version
    ++ (each program_line (records (program_read bytes) 7 h.programs programs)
    ++ (each function_line (records (function_from bytes) 7 h.functions functions)
    ++ each map_line (records (map_read bytes) 27 h.maps maps)))

abbrev pub flat_answer : Result Summary Refusal → List ℕ → List ℕ → List ℕ → List ℕ → List ℕ
flat_answer (Ok h) programs functions maps bytes = flat_text h programs functions maps bytes
flat_answer (Err r) programs functions maps bytes = refusal_text r

-- the tables have the rows that the summary counts
pub record RowsFit (h : Summary) (ps fs ms : List ℕ) : Type 0 where
  pub programs : h.programs * 7 ≤ length ps
  pub functions : h.functions * 7 ≤ length fs
  pub maps : h.maps * 27 ≤ length ms

abbrev pub AnswerFits : Result Summary Refusal → List ℕ → List ℕ → List ℕ → Type 0
AnswerFits (Ok h) programs functions maps = RowsFit h programs functions maps
AnswerFits (Err r) programs functions maps = Prim.Unit {0}
