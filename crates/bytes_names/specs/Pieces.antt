-- The name that a number stands for.
use Rattle.std.specs.Prelude.{◌≡◌, List, ℕ, ◌+◌, ◌≤◌, length}
use Rattle.std.proofs.Math.Path.{refl}
use Rattle.std.proofs.Common.{length-take-le}
use Rattle.model.specs.declared.Extent.{Extent}
use Rattle.object_view.specs.declared.View.{View}
use Rattle.stream.specs.Stream.{place, length-bytes}
use Rattle.records.specs.declared.MapSource.{MapSource}
use Rattle.records.specs.View.{gap_of, section_at, symbol_at, name_in}
use Rattle.records.specs.Maps.{map_source_of, source_name as name_at, map_name_at}
use Rattle.catalogue_laws.specs.FunctionsMaps.{source_name_bytes, map_name_of_number}
use Rattle.object.specs.View.{section_from, symbol_from, section_in, symbol_in}
use Rattle.bytes_names.specs.declared.Piece.{Piece}

unfoldable pub extent_of : Piece → List ℕ → List ℕ → View → ℕ → Extent
extent_of Piece.SectionName d t v j = (section_at d t v j).name
extent_of Piece.SymbolName d t v j = (symbol_at d t v j).name
extent_of Piece.MapName d t v j = map_name_at d t v j

-- its bytes
abbrev pub piece_of : Piece → List ℕ → List ℕ → View → ℕ → List ℕ
piece_of which d t v j = name_in d v (extent_of which d t v j)

-- the names of the object
module _ (d t : List ℕ) (v : View) (j : ℕ) where
  pub section-piece : piece_of Piece.SectionName d t v j ≡ (section_in d t v j).name
  unfolding extent_of section_from
  section-piece = refl

  pub symbol-piece : piece_of Piece.SymbolName d t v j ≡ (symbol_in d t v j).name
  unfolding extent_of symbol_from
  symbol-piece = refl

  pub map-piece : piece_of Piece.MapName d t v j ≡ map_name_of_number v.order (section_in d t v) v.sections (symbol_in d t v) v.symbols j
  unfolding extent_of map_name_at section_from symbol_from
  map-piece = go (map_source_of v.sections j)
    where
      go : (s : MapSource) → name_in d v (name_at d t v s) ≡ source_name_bytes v.order (section_in d t v) v.sections (symbol_in d t v) v.symbols s
      go (MapSource.Section i) = refl
      go (MapSource.Symbol k) = refl

-- they lie inside the stream
abbrev pub PieceInside : Piece → List ℕ → List ℕ → View → ℕ → Type 0
PieceInside which d t v j = place (gap_of v) (v.at.names + (extent_of which d t v j).at + (extent_of which d t v j).length) ≤ length d

pub piece_length : (which : Piece) (d t : List ℕ) (v : View) (j : ℕ) → length (piece_of which d t v j) ≡ (extent_of which d t v j).length
piece_length which d t v j = length-bytes d (gap_of v) (v.at.names + (extent_of which d t v j).at) (extent_of which d t v j).length

pub ruleset named = (piece_length, length-take-le)
