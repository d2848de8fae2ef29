-- The look-up of a row of the function table by section and address.
use Rattle.std.specs.Prelude.{cond, List, [], ◌∷◌, ℕ, zero, suc, ◌+◌, ◌-◌, ◌/◌, min, ltb, length, get_or, None, Option, Some}
use Rattle.model.specs.declared.Function.{Function as FunctionRow}
use Rattle.model.specs.Bytes.{same, before}
use Rattle.model.specs.Lent.{zero_row}

-- S101: a row's key: section and address
abbrev pub row_key : FunctionRow → List ℕ
row_key f = f.section.0 ∷ f.address ∷ []

-- S103: the row in the middle of those from low up to high
abbrev pub middle : ℕ → ℕ → ℕ
middle low high = low + (high - low) / 2

-- S103: what a search by halves finds among the rows from low up to high, of which there are n at most: the middle row if it has the key; else it goes on
-- behind that row if the row's key goes before the key, and in front of it if not
unfoldable pub searched : List FunctionRow → List ℕ → ℕ → ℕ → ℕ → Option ℕ
searched fs k zero low high = None
searched fs k (suc n) low high =
    cond (ltb low high)
    (cond (same (row_key (get_or fs (middle low high) zero_row)) k)
    (Some (middle low high))
    (cond (before (row_key (get_or fs (middle low high) zero_row)) k)
    (searched fs k n (middle low high + 1) high)
    (searched fs k n low (middle low high))))
    None

-- S101: among the first `count` rows. In the table of an accepted load, with its count of functions: the place of the row with the key, or nothing
-- if none has it (crates/find_laws: `finds`, `finds-row`, `finds-none`). In a table that no load made: what a search by halves finds
unfoldable pub found_in : List FunctionRow → ℕ → List ℕ → Option ℕ
found_in fs count k = searched fs k (min count (length fs)) 0 (min count (length fs))

-- S101: for C and Rust: the place, or 2^64 - 1
abbrev pub row_number : Option ℕ → ℕ
row_number (Some i) = i
row_number None = 18446744073709551615
