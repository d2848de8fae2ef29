-- Numbers 10 and 16 of a map's symbol by the records, and what numbers stand for its maps.
use Rattle.std.specs.Prelude.{cond, List, map, ℕ, None, Option, Some}
use Rattle.object_view.specs.declared.View.{View}
use Rattle.model.specs.declared.Refusal.{Refusal}
use Rattle.model.specs.declared.SectionRecord.{SectionRecord}
use Rattle.model.specs.declared.SymbolRecord.{SymbolRecord}
use Rattle.model.specs.Bytes.{part}
use Rattle.model.specs.Contents.{words_of, invalid_map_definition}
use Rattle.model.specs.Refusals.{map_symbol_refusal}
use Rattle.records.specs.declared.MapSource.{MapSource}
use Rattle.records.specs.View.{symbol_at, data_in}
use Rattle.records.specs.Maps.{map_number_of}
use Rattle.object.specs.Group.{past_data}
use Rattle.object.specs.View.{section_from, symbol_from}

-- the numbers of the maps that symbols are
abbrev pub symbol_map_numbers : ℕ → List ℕ → List ℕ
symbol_map_numbers sections js = map (λ j. map_number_of sections (MapSource.Symbol j)) js

module _ (d : List ℕ) (v : View) (s : SectionRecord) where
  unfoldable pub map_fault : SymbolRecord → Option ℕ
  map_fault y =
      cond (past_data s.bytes.length y.address y.size) (Some 10)
      (cond (invalid_map_definition y.size (words_of (part (data_in d v s.bytes) y.address y.size))) (Some 16) None)

module _ (d t : List ℕ) (v : View) (s : SectionRecord) where
  abbrev pub map_refusal_by : SymbolRecord → Option Refusal
  map_refusal_by y = map_symbol_refusal (section_from d t v s) (symbol_from d t v y)

  abbrev pub map_refusal_at : ℕ → Option Refusal
  map_refusal_at j = map_refusal_by (symbol_at d t v j)
