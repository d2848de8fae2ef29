-- The rows of the section list, by the numbers of its sections.
use Rattle.std.specs.Prelude.{◌≡◌, refl, List, [], ◌∷◌, ◌++◌, map, ℕ, ◌+◌, ◌*◌, ◌<◌, ◌≤◌, length, get_or, take, drop}
use Rattle.std.proofs.Common.{ap, ◌∙◌, arith}
use Rattle.std.proofs.lemmas.List.Edits.{sets}
use Rattle.object_view.specs.declared.View.{View}
use Rattle.model.specs.declared.SectionRecord.{SectionRecord}
use Rattle.model.specs.Bytes.{each}
use Rattle.model.specs.Catalogue.{SectionEntry}
use Rattle.model.specs.Lent.{placed, joined, nothing, section_name, section_row}
use Rattle.stream.specs.Stream.{length-bytes}
use Rattle.records.specs.View.{gap_of, section_at}
use Rattle.catalogue_laws.specs.SectionsPrograms.{entry_in}
use Rattle.catalogue_laws.specs.Placed.{each-longer, row_at, placed-sets}
use Rattle.object.specs.View.{section_from, section_in, symbol_in}

row-length : (a b : ℕ) (x : SectionEntry) → length (section_row a b x) ≡ 4
unfolding section_row
row-length a b x = refl

module _ (d t : List ℕ) (v : View) where
  abbrev pub entry_of : ℕ → SectionEntry
  entry_of = entry_in v.order (section_in d t v) v.sections (symbol_in d t v) v.symbols

  -- their names lie one after the other from `at` on
  abbrev pub section_rows : ℕ → List ℕ → List ℕ
  section_rows at js = joined (placed section_name nothing section_row at 0 (map entry_of js))

  abbrev pub section_name_in : ℕ → List ℕ
  section_name_in i = section_name (entry_of i)

  name-length : (i : ℕ) → length (section_name_in i) ≡ (section_at d t v i).name.length
  unfolding section_from
  name-length i = length-bytes d (gap_of v) (v.at.names + (section_at d t v i).name.at) (section_at d t v i).name.length

  -- the row of the next number, by its record
  module _ (js : List ℕ) (at k place : ℕ) (s : SectionRecord) (read : s ≡ section_at d t v (get_or js k 0)) (behind : place ≡ at + length (each section_name_in (take k js))) (some : k < length js) where
    row_is : place ∷ s.name.length ∷ s.index.0 ∷ s.size ∷ [] ≡ row_at section_name nothing section_row entry_of js at 0 k
    unfolding section_row section_from
    row_is = rw (behind, name-length (get_or js k 0), read)

    -- where the name behind it lies
    pub place-next : place + s.name.length ≡ at + length (each section_name_in (take (k + 1) js))
    place-next =
        let e : length (section_name_in (get_or js k 0)) ≡ s.name.length = name-length (get_or js k 0) ∙ rw read in
        omega (arith, each-longer section_name_in js 0 k some)

    -- one row more, in a table whose front are those of k sections
    pub rows_more : (out₀ out : List ℕ) → k * 4 + 4 ≤ length out₀ → out ≡ section_rows at (take k js) ++ drop (k * 4) out₀
        → sets out (k * 4) (place ∷ s.name.length ∷ s.index.0 ∷ s.size ∷ []) ≡ section_rows at (take (k + 1) js) ++ drop ((k + 1) * 4) out₀
    rows_more out₀ out room q =
        ap (sets out (k * 4)) row_is ∙ rw q (placed-sets section_name nothing section_row entry_of js at 0 4 k out₀ row-length some room)
