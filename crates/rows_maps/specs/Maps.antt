-- A map's row, by the records that it is read from.
use Rattle.std.specs.Prelude.{◌≡◌, List, ℕ, ◌+◌, ◌≤◌, length}
use Rattle.model.specs.declared.BpfMapDef.{BpfMapDef}
use Rattle.model.specs.declared.EbpfSectionKind.{EbpfSectionKind as Kind}
use Rattle.object_view.specs.declared.View.{View}
use Rattle.model.specs.Catalogue.{Map}
use Rattle.model.specs.Contents.{legacy_map, record_of, words_of, data_map, data_words}
use Rattle.model.specs.SectionKind.{kind_number, kind_of}
use Rattle.stream.specs.Stream.{bytes_at, length-bytes}
use Rattle.stream.specs.Laws.{part_bytes}
use Rattle.records.specs.declared.MapSource.{MapSource}
use Rattle.records.specs.View.{gap_of, section_at, symbol_at}
use Rattle.records.specs.Maps.{map_source_of}
use Rattle.object.specs.View.{section_from, symbol_from, section_in, symbol_in}
use Rattle.bytes_maps.specs.Own.{own_bytes}
use Rattle.catalogue_numbers.specs.Numbers.{home_at, map_at}
use Rattle.rows_maps.specs.declared.Row.{Row}
use Rattle.rows_maps.specs.Rows.{map_row_of}

abbrev row_by : ℕ → ℕ → ℕ → ℕ → ℕ → BpfMapDef → Row
row_by length section kind symbol own def = record { length = length; section = section; kind = kind; symbol = symbol; own = own; def = def }

module _ (d t : List ℕ) (v : View) where
  -- the map of symbol j
  abbrev pub legacy_at : ℕ → Map
  legacy_at j = legacy_map (section_in d t v (home_at d t v j)) (symbol_in d t v j)

  -- its record lies in the data of its section
  abbrev pub RecordWithin : ℕ → Type 0
  RecordWithin j = (symbol_at d t v j).address + (symbol_at d t v j).size ≤ (section_at d t v (home_at d t v j)).bytes.length

  -- the row of a section's map, by the record
  pub data_row_of : (n i : ℕ) → map_source_of v.sections n ≡ MapSource.Section i
      → map_row_of (map_at d t v n)
      ≡ (let s = section_at d t v i in
      let k = kind_of (section_from d t v s) in
      row_by s.name.length s.index.0 (kind_number k) 0 (length (own_bytes d t v n)) (data_words k s.size))
  unfolding map_row_of data_map section_from
  data_row_of n i m = rw (m, length-bytes)

  -- the row of a symbol's map, by its record and that of its section
  pub legacy_row_of : (j : ℕ) → RecordWithin j
      → map_row_of (legacy_at j)
      ≡ (let y = symbol_at d t v j in
      let s = section_at d t v (home_at d t v j) in
      row_by y.name.length s.index.0 (kind_number Kind.Maps) y.index.0 0 (words_of (bytes_at d (gap_of v) (v.at.bytes + s.bytes.at + y.address) y.size)))
  unfolding map_row_of legacy_map record_of section_from symbol_from
  legacy_row_of j w =
      let y = symbol_at d t v j in
      let s = section_at d t v (home_at d t v j) in
      rw (length-bytes, part_bytes d (gap_of v) (v.at.bytes + s.bytes.at) s.bytes.length y.address y.size w)
