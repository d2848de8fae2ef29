-- The names of a view that is readable lie inside the stream.
use Rattle.std.specs.Prelude.{List, ℕ, ◌<◌}
use Rattle.object_view.specs.declared.View.{View}
use Rattle.records.specs.declared.MapSource.{MapSource}
use Rattle.records.specs.Maps.{map_source_of, source_name, map_name_at}
use Rattle.records.specs.Readable.{NameFits, Readable}
use Rattle.bytes_names.specs.declared.Piece.{Piece}
use Rattle.bytes_names.specs.Pieces.{extent_of}

-- a source that is a record
abbrev pub KnownSource : View → MapSource → Type 0
KnownSource v (MapSource.Section i) = i < v.sections
KnownSource v (MapSource.Symbol j) = j < v.symbols

-- a number that stands for a record
abbrev pub Known : Piece → View → ℕ → Type 0
Known Piece.SectionName v j = j < v.sections
Known Piece.SymbolName v j = j < v.symbols
Known Piece.MapName v j = KnownSource v (map_source_of v.sections j)

module _ (d t : List ℕ) (v : View) (r : Readable d t v) where
  source_fits : (s : MapSource) → KnownSource v s → NameFits d v (source_name d t v s)
  source_fits (MapSource.Section i) l = r.section-name i l
  source_fits (MapSource.Symbol j) l = r.symbol-name j l

  pub name-fits : (which : Piece) (j : ℕ) → Known which v j → NameFits d v (extent_of which d t v j)
  unfolding extent_of map_name_at
  name-fits Piece.SectionName j l = r.section-name j l
  name-fits Piece.SymbolName j l = r.symbol-name j l
  name-fits Piece.MapName j l = source_fits (map_source_of v.sections j) l
