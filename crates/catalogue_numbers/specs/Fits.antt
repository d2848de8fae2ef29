-- What is known of the numbers of an accepted object's tables: where they lie, and that what they stand for lies inside its section's data.
use Rattle.std.specs.Prelude.{◌≡◌, List, ℕ, ◌+◌, ◌%◌, ◌<◌, ◌≤◌}
use Rattle.object_view.specs.declared.View.{View}
use Rattle.records.specs.declared.MapSource.{MapSource}
use Rattle.records.specs.View.{section_at, symbol_at}
use Rattle.records.specs.Maps.{map_source_of}
use Rattle.catalogue_numbers.specs.Numbers.{home_at, function_by_number}

module _ (d t : List ℕ) (v : View) where
  -- a function's symbol: its code lies in the data of its section, in whole instructions
  pub record FunctionFits (j : ℕ) : Type 0 where
    pub symbol : j < v.symbols
    pub home : home_at d t v j < v.sections
    pub within : (function_by_number d t v j).offset + (symbol_at d t v j).size ≤ (section_at d t v (home_at d t v j)).bytes.length
    pub whole : (symbol_at d t v j).size % 8 ≡ 0

  -- a map's symbol: its record lies in the data of its section
  pub record SymbolFits (j : ℕ) : Type 0 where
    pub symbol : j < v.symbols
    pub home : home_at d t v j < v.sections
    pub within : (symbol_at d t v j).address + (symbol_at d t v j).size ≤ (section_at d t v (home_at d t v j)).bytes.length

  abbrev pub SourceFits : MapSource → Type 0
  SourceFits (MapSource.Section i) = i < v.sections
  SourceFits (MapSource.Symbol j) = SymbolFits j

  -- a map's number
  abbrev pub MapFits : ℕ → Type 0
  MapFits n = SourceFits (map_source_of v.sections n)
