-- What an opened view promises: limits, indexes that rise, and that its names, data and relocations lie inside. Everything above `records` holds of any view that is Readable.
use Rattle.std.specs.Prelude.{List, ℕ, ◌+◌, ◌<◌, ◌≤◌, length}
use Rattle.model.specs.declared.Extent.{Extent}
use Rattle.stream.specs.Stream.{place}
use Rattle.object_view.specs.declared.View.{View}
use Rattle.records.specs.View.{gap_of, section_at, symbol_at}

-- a range of a name, and of data
pub record NameFits (d : List ℕ) (v : View) (e : Extent) : Type 0 where
  pub short : e.length ≤ 65535
  pub placed : place (gap_of v) (v.at.names + e.at + e.length) ≤ length d

pub record DataFits (d : List ℕ) (v : View) (e : Extent) : Type 0 where
  pub short : e.length ≤ 16777216
  pub placed : place (gap_of v) (v.at.bytes + e.at + e.length) ≤ length d

module _ (d t : List ℕ) (v : View) where
  -- the indexes of the section records rise, and those of the symbols
  abbrev pub SectionsRise : Type 0
  SectionsRise = (i j : ℕ) → i < j → j < v.sections → (section_at d t v i).index.0 < (section_at d t v j).index.0

  abbrev pub SymbolsRise : Type 0
  SymbolsRise = (i j : ℕ) → i < j → j < v.symbols → (symbol_at d t v i).index.0 < (symbol_at d t v j).index.0

  pub record Readable : Type 0 where
    pub short : length d ≤ 16777216
    pub few-sections : v.sections ≤ 4096
    pub few-symbols : v.symbols ≤ 65536
    pub few-relocations : v.relocations ≤ 65536
    pub sections-rise : SectionsRise
    pub symbols-rise : SymbolsRise
    pub section-name : (i : ℕ) → i < v.sections → NameFits d v (section_at d t v i).name
    pub symbol-name : (i : ℕ) → i < v.symbols → NameFits d v (symbol_at d t v i).name
    pub section-size : (i : ℕ) → i < v.sections → (section_at d t v i).size ≤ 16777216
    pub section-data : (i : ℕ) → i < v.sections → DataFits d v (section_at d t v i).bytes
    pub relocations-inside : (i : ℕ) → i < v.sections → (section_at d t v i).relocations.at + (section_at d t v i).relocations.length ≤ v.relocations
