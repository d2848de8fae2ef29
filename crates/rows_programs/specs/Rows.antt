-- The rows of the program table, by the numbers of its symbols.
use Rattle.std.specs.Prelude.{◌≡◌, refl, List, [], ◌∷◌, ◌++◌, map, ℕ, ◌+◌, ◌*◌, ◌<◌, ◌≤◌, get_or, take, drop}
use Rattle.std.proofs.Common.{ap, ◌∙◌, arith}
use Rattle.std.proofs.Math.ListN.{length}
use Rattle.std.proofs.lemmas.List.Edits.{sets}
use Rattle.object_view.specs.declared.View.{View}
use Rattle.model.specs.Bytes.{each}
use Rattle.model.specs.Catalogue.{Program}
use Rattle.model.specs.Contents.{program_at as program_of_symbol}
use Rattle.model.specs.Lent.{placed, joined, nothing, program_name, program_row}
use Rattle.model.specs.ProgramNumbers.{variant_of}
use Rattle.stream.specs.Stream.{length-bytes}
use Rattle.records.specs.View.{name_in, section_at, symbol_at}
use Rattle.catalogue_laws.specs.Placed.{each-longer, row_at, placed-sets}
use Rattle.object.specs.View.{section_from, symbol_from}
use Rattle.catalogue_numbers.specs.Numbers.{home_at, program_by_number}
use Rattle.program_section.specs.Found.{variant_shown}
use Rattle.rows_programs.specs.declared.Row.{Row}

unfoldable pub program_row_of : Program → Row
program_row_of p =
    record {
      length = length p.name;
      number = (variant_of p.variant).number;
      first = (variant_of p.variant).first;
      second = (variant_of p.variant).second;
      section = p.section.0;
      address = p.address;
    }

abbrev numbers : ℕ → Row → List ℕ
numbers place r = place ∷ r.length ∷ r.number ∷ r.first ∷ r.second ∷ r.section ∷ r.address ∷ []

row-length : (a b : ℕ) (p : Program) → length (program_row a b p) ≡ 7
unfolding program_row
row-length a b p = refl

module _ (d t : List ℕ) (v : View) where
  -- their names lie one after the other from `at` on
  abbrev pub program_rows : ℕ → List ℕ → List ℕ
  program_rows at js = joined (placed program_name nothing program_row at 0 (map (program_by_number d t v) js))

  abbrev pub program_name_in : ℕ → List ℕ
  program_name_in j = program_name (program_by_number d t v j)

  -- the row of a symbol, by its record and that of its section
  pub row_of : (j : ℕ) → program_row_of (program_by_number d t v j)
      ≡ (let y = symbol_at d t v j in
      let s = section_at d t v (home_at d t v j) in
      let w = variant_shown (name_in d v s.name) in
      record { length = y.name.length; number = w.number; first = w.first; second = w.second; section = s.index.0; address = y.address })
  unfolding program_row_of program_of_symbol section_from symbol_from
  row_of j = rw length-bytes

  -- the row of the next number
  module _ (js : List ℕ) (at k place : ℕ) (r : Row) (read : r ≡ program_row_of (program_by_number d t v (get_or js k 0))) (behind : place ≡ at + length (each program_name_in (take k js))) (some : k < length js) where
    row-at : numbers place r ≡ row_at program_name nothing program_row (program_by_number d t v) js at 0 k
    unfolding program_row_of program_row
    row-at = rw (read, behind)

    -- where the name behind it lies
    pub place-next : place + r.length ≡ at + length (each program_name_in (take (k + 1) js))
    unfolding program_row_of
    place-next = let e : r.length ≡ length (program_name_in (get_or js k 0)) = rw read in omega (arith, each-longer program_name_in js 0 k some)

    -- one row more, in a table whose front are those of k programs
    pub rows_more : (out₀ out : List ℕ) → k * 7 + 7 ≤ length out₀ → out ≡ program_rows at (take k js) ++ drop (k * 7) out₀
        → sets out (k * 7) (numbers place r) ≡ program_rows at (take (k + 1) js) ++ drop ((k + 1) * 7) out₀
    rows_more out₀ out room q =
        ap (sets out (k * 7)) row-at ∙ rw q (placed-sets program_name nothing program_row (program_by_number d t v) js at 0 7 k out₀ row-length some room)
