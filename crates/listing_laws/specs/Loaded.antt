-- What a load leaves in the lent tables, with the function table as numbers, gives the text of its definition.
use Rattle.std.specs.Prelude.{◌≡◌, refl, Bool, ◌&&◌, List, [], ◌∷◌, ◌++◌, map, ℕ, zero, suc, ◌+◌, ◌*◌, ◌≤◌, take, Ok}
use Rattle.std.proofs.Math.Path.{ap}
use Rattle.std.proofs.Common.{◌∙◌, append_assoc, not-suc-le-zero, le_of_suc-le-suc, length-append}
use native.Mathlib.Omega.{arith}
use borrow.Author.Tests.{leb-true}
use Rattle.std.proofs.Math.Dec.{leb}
use Rattle.std.proofs.Math.ListN.{length}
use Rattle.model.specs.declared.Function.{Function as FunctionRow}
use Rattle.model.specs.declared.Summary.{Summary}
use Rattle.model.specs.Bytes.{each, records}
use Rattle.model.specs.Catalogue.{Program, Function, Map}
use Rattle.model.specs.FunctionNumbers.{flat_rows}
use Rattle.model.specs.Lent.{fits_in, image_of, summary_of, placed, program_name, function_name, function_code, map_name, map_own, nothing, program_row, function_row, map_row, programs_at, functions_at, code_start, maps_at, own_start}
use Rattle.model.specs.declared.Room.{Room}
use Rattle.model.specs.Listing.{catalogue_text}
use Rattle.model.specs.ReadBack.{function_read, read_back}
use Rattle.lists.specs.Tests.{both_true}
use Rattle.catalogue_laws.specs.Placed.{length-joined}
use Rattle.guarantees.specs.WordsOfDemand3.{Input, outcome_on}
use Rattle.guarantees.specs.LentBack.{Given, given_is}
use Rattle.guarantees.proofs.LentBack.{lent-lengths}
use Rattle.rows_numbers.specs.Flat.{length-flat}
use Rattle.listing_laws.specs.Numbers.{Flat}
use Rattle.listing_text.specs.Flat.{row_from, function_from, top_text, flat_text, RowsFit}

functions-read : (b : List ℕ) (n : ℕ) (rows : List FunctionRow) (rest : List ℕ) → n ≤ length rows
    → records (function_from b) 7 n (flat_rows rows ++ rest) ≡ map (function_read b) (take n rows)
unfolding records each row_from flat_rows
functions-read b zero rows rest h = refl
functions-read b (suc n) [] rest h = absurd (not-suc-le-zero h)
functions-read b (suc n) (r ∷ rows) rest h = ap (λ l. function_read b r ∷ l) (functions-read b n rows rest (le_of_suc-le-suc h))

program-wide : (a b : ℕ) (p : Program) → length (program_row a b p) ≡ 7
unfolding program_row
program-wide a b p = refl

map-wide : (a b : ℕ) (m : Map) → length (map_row a b m) ≡ 27
unfolding map_row
map-wide a b m = refl

placed-length : (a b : ℕ) (xs : List Function) → length (placed function_name function_code function_row a b xs) ≡ length xs
unfolding placed
placed-length a b [] = refl
placed-length a b (x ∷ xs) = ap suc (placed-length (a + length (function_name x)) (b + length (function_code x)) xs)

-- the rows and bytes that the summary counts are within the room
pub record CountsWithin (room : Room) (h : Summary) : Type 0 where
  pub programs : h.programs * 7 ≤ room.programs
  pub functions : h.functions ≤ room.functions
  pub maps : h.maps * 27 ≤ room.maps
  pub bytes : h.bytes ≤ room.bytes

module _ (x : Input) (entries patches : List ℕ) (on : Bool) (room : Room) (h : Summary) (accepted : (outcome_on x entries patches on room).reply ≡ Ok h) where
  given : Given x entries patches on room h
  given = given_is x entries patches on room h accepted

  pub within : CountsWithin room h
  unfolding fits_in image_of summary_of
  within =
      let c = given.catalogue in
      let i = image_of c in
      let s = leb (length i.sections) room.sections in
      let p = leb (length i.programs) room.programs in
      let f = leb (length i.functions) room.functions in
      let m = leb (length i.maps) room.maps in
      let r = leb (length i.relocations) room.relocations in
      let b = leb (length i.bytes) room.bytes in
      let (e₁, t₁) = both_true s (p && (f && (m && (r && b)))) given.fits in
      let (e₂, t₂) = both_true p (f && (m && (r && b))) t₁ in
      let (e₃, t₃) = both_true f (m && (r && b)) t₂ in
      let (e₄, t₄) = both_true m (r && b) t₃ in
      let (e₅, e₆) = both_true r b t₄ in
      let n₁ : h.programs ≡ length c.programs = ap (λ x. x.programs) given.summary in
      let n₂ : h.functions ≡ length c.functions = ap (λ x. x.functions) given.summary in
      let n₃ : h.maps ≡ length c.maps = ap (λ x. x.maps) given.summary in
      let n₄ : h.bytes ≡ length i.bytes = ap (λ x. x.bytes) given.summary in
      let l₁ : length i.programs ≤ room.programs = leb-true _ _ e₂ in
      let l₂ : length i.functions ≤ room.functions = leb-true _ _ e₃ in
      let l₃ : length i.maps ≤ room.maps = leb-true _ _ e₄ in
      let l₄ : length i.bytes ≤ room.bytes = leb-true _ _ e₆ in
      let w₁ : length i.programs ≡ length c.programs * 7 = length-joined program_name nothing program_row 7 program-wide (programs_at c) 0 c.programs in
      let w₂ : length i.functions ≡ length c.functions = placed-length (functions_at c) (code_start c) c.functions in
      let w₃ : length i.maps ≡ length c.maps * 27 = length-joined map_name map_own map_row 27 map-wide (maps_at c) (own_start c) c.maps in
      record { programs = omega arith; functions = omega arith; maps = omega arith; bytes = omega arith }

  -- the tables have the rows that the summary counts, and their text is the answer's
  module _ (programs functions maps bytes : List ℕ) (flat : Flat (outcome_on x entries patches on room).lent programs functions maps bytes) where
    pub rows_fit : RowsFit h programs functions maps
    rows_fit =
        let n = lent-lengths x entries patches on room in
        let p : length programs ≡ room.programs = ap length flat.same-programs ∙ n.programs in
        let m : length maps ≡ room.maps = ap length flat.same-maps ∙ n.maps in
        let f : length functions ≡ length (outcome_on x entries patches on room).lent.functions * 7 + length flat.rest =
        ap length flat.same-functions ∙ length-append (flat_rows (outcome_on x entries patches on room).lent.functions) flat.rest ∙ ap (λ k. k + length flat.rest) (length-flat (outcome_on x entries patches on room).lent.functions)
        in
        let g : length (outcome_on x entries patches on room).lent.functions ≡ room.functions = n.functions in
        record { programs = omega (arith, within.programs); functions = omega (arith, within.functions); maps = omega (arith, within.maps) }

    pub flat-is : flat_text h programs functions maps bytes ≡ catalogue_text (read_back h (outcome_on x entries patches on room).lent)
    unfolding flat_text top_text catalogue_text read_back
    flat-is =
        let g : h.functions ≤ length (outcome_on x entries patches on room).lent.functions = omega (arith, within.functions, (lent-lengths x entries patches on room).functions) in
        rw (flat.same-programs, flat.same-functions, flat.same-maps, flat.same_bytes, functions-read (outcome_on x entries patches on room).lent.bytes h.functions (outcome_on x entries patches on room).lent.functions flat.rest g)
        (simp append_assoc)
