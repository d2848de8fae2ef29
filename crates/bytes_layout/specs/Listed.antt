-- What is laid for each number of a table: a name, a function's code or a map's own bytes.
use Rattle.std.specs.Prelude.{List, ℕ, ◌<◌, ◌≤◌, length, get_or}
use Rattle.object_view.specs.declared.View.{View}
use Rattle.catalogue_numbers.specs.Fits.{FunctionFits}
use Rattle.bytes_names.specs.Inside.{Known}
use Rattle.bytes_names.specs.Pieces.{piece_of}
use Rattle.bytes_code.specs.Code.{code_at}
use Rattle.bytes_maps.specs.Own.{own_bytes}
use Rattle.bytes_layout.specs.declared.Part.{Part}

abbrev pub part_of : Part → List ℕ → List ℕ → View → ℕ → List ℕ
part_of (Part.Name which) d t v = piece_of which d t v
part_of Part.Code d t v = code_at d t v
part_of Part.Own d t v = own_bytes d t v

-- a number that stands for one
abbrev pub PartFits : Part → List ℕ → List ℕ → View → ℕ → Type 0
PartFits (Part.Name which) d t v j = Known which v j
PartFits Part.Code d t v j = FunctionFits d t v j
PartFits Part.Own d t v j = Unit {0}

-- the numbers of a table do
abbrev pub PartListed : Part → List ℕ → List ℕ → View → List ℕ → Type 0
PartListed part d t v order = (length order ≤ 69632) × ((k : ℕ) → k < length order → PartFits part d t v (get_or order k 0))
