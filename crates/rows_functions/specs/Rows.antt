-- The rows of the function table, by the record numbers of its symbols.
use Rattle.std.specs.Prelude.{◌≡◌, true, false, cond, List, [], ◌∷◌, ℕ, zero, suc, ◌+◌, ◌*◌, ◌/◌, min, ltb, length, get_or}
use Rattle.model.specs.declared.Function.{Function}
use Rattle.model.specs.declared.SectionRecord.{SectionRecord}
use Rattle.model.specs.declared.SymbolRecord.{SymbolRecord}
use Rattle.model.specs.Lent.{range, zero_row}
use Rattle.model.specs.Symbols.{top}
use Rattle.object_view.specs.declared.View.{View}
use Rattle.records.specs.View.{symbol_at}
use Rattle.catalogue_numbers.specs.Function.{section_of_function, start_of}
use Rattle.rows_functions.specs.declared.Made.{Made}
use Rattle.rows_functions.specs.declared.Rows.{Rows}

-- a function's code is whole instructions
abbrev pub code_length : SymbolRecord → ℕ
code_length y = y.size / 8 * 8

-- the row of symbol record j, and what is left behind it
unfoldable pub row_made : List ℕ → List ℕ → View → ℕ → Rows → Made
row_made d t v j rows =
    let y : SymbolRecord = symbol_at d t v j in
    let s : SectionRecord = section_of_function d t v j in
    record {
      row =
          record {
            section = s.index;
            address = y.address;
            offset = start_of d t v j;
            name = range rows.name y.name.length;
            code = range rows.code (code_length y);
          };
      rest = record { name = min (rows.name + y.name.length) top; code = min (rows.code + code_length y) top };
    }

-- row i of the numbers, and what is left; past the last number a row of zeros
unfoldable pub made_of : List ℕ → List ℕ → View → List ℕ → ℕ → Rows → Made
made_of d t v order i rows = cond (ltb i (length order)) (row_made d t v (get_or order i 0) rows) (record { row = zero_row; rest = rows })

-- the rows from row i on, n of them
unfoldable pub rows_made : List ℕ → List ℕ → View → List ℕ → ℕ → Rows → ℕ → List Function
rows_made d t v order i rows zero = []
rows_made d t v order i rows (suc n) = (made_of d t v order i rows).row ∷ rows_made d t v order (suc i) (made_of d t v order i rows).rest n

module _ (d t : List ℕ) (v : View) (order : List ℕ) (i : ℕ) (rows : Rows) where
  pub made_row : ltb i (length order) ≡ true → made_of d t v order i rows ≡ row_made d t v (get_or order i 0) rows
  unfolding made_of
  made_row e = rw e

  pub made_none : ltb i (length order) ≡ false → made_of d t v order i rows ≡ record { row = zero_row; rest = rows }
  unfolding made_of
  made_none e = rw e
