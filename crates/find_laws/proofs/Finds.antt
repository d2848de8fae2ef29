-- After an accepted load, of a deposit or a file, the look-up finds the function of the catalogue that has the section and the address, or nothing if none has.
use Rattle.std.specs.Prelude.{◌≡◌, refl, Bool, false, List, ℕ, ◌+◌, ◌-◌, ◌<◌, min, length, get_or, take, replicate, None, Ok, Option, Some}
use Rattle.std.proofs.Common.{sym, ◌∙◌, subst, arith, length-append, take_at}
use Rattle.std.proofs.Math.Path.{ap}
use Rattle.std.proofs.Math.ListN.{get_or-append}
use Rattle.model.specs.declared.Function.{Function as Row}
use Rattle.model.specs.declared.Refusal.{Refusal}
use Rattle.model.specs.declared.Summary.{Summary}
use Rattle.model.specs.Bytes.{same, ◌∈◌}
use Rattle.model.specs.Object.{Object, Patch}
use Rattle.model.specs.Catalogue.{Function, Catalogue, function_key}
use Rattle.model.specs.Contents.{catalogue_of}
use Rattle.model.specs.Refusals.{refusal_of}
use Rattle.model.specs.Patching.{accepted, finish, verdict, load}
use Rattle.model.specs.PatchList.{patches_of}
use Rattle.model.specs.Lent.{functions_at, code_start, summary_of, image_of, filled, filled_to, zero_row}
use Rattle.model.specs.LookUp.{row_key, found_in}
use Rattle.model.specs.declared.Room.{Room}
use Rattle.guarantees.specs.TableLaws.{Sorted, sorted-table}
use Rattle.guarantees.specs.WordsOfDemand3.{Input, object_read, outcome_on}
use Rattle.guarantees.specs.AcceptedInputs.{input-accepted}
use Rattle.guarantees.specs.SecondHalf.{accepted-is}
use Rattle.guarantees.specs.LentBack.{Given, given_is}
use Rattle.finish_laws.specs.Alike.{Alike, alike-finish}
use Rattle.find_laws.specs.SearchLaws.{place_from, RowsRise, found-is}
use Rattle.find_laws.specs.Rising.{function_rows, length-rows, front-rises, function_place, place_is, place_none, place-some}

load_is : (o : Object) (ps : List Patch) (on : Bool) (c : Catalogue) → load o ps on ≡ accepted c → c ≡ finish o ps on (catalogue_of o)
unfolding load
load_is o ps on c h = go (refusal_of o ps) h
  where
    go : (r : Option Refusal) → verdict r (finish o ps on (catalogue_of o)) ≡ accepted c → c ≡ finish o ps on (catalogue_of o)
    go None q = accepted-is (sym q)
    go (Some r) q = let z : ◌≡◌ {A = ℕ} 0 1 = cc in let no : ⊥ = omega arith in absurd no

functions-sorted : (o : Object) → Sorted function_key (catalogue_of o).functions
unfolding catalogue_of
functions-sorted o = sorted-table function_key _

-- the rows of functions that are ordered by their keys, and zeros behind: what is found among the first of them
module _ (a c n : ℕ) (fs : List Function) (s : Sorted function_key fs) (k : List ℕ) where
  abbrev table : List Row
  table = filled zero_row n (function_rows a c fs)

  most : min (length fs) (length table) ≡ length (function_rows a c fs)
  most = rw (length-append) (omega (arith, length-rows a c fs))

  found-there : found_in table (length fs) k ≡ function_place k 0 fs
  found-there =
      let rise : RowsRise table (min (length fs) (length table)) = rw most (front-rises a c fs (replicate (n - length (function_rows a c fs)) zero_row) s) in
      found-is table (length fs) k rise
      ∙ ap (λ (m : ℕ). place_from k 0 (take m table)) most
      ∙ ap (place_from k 0) (take_at (function_rows a c fs) (replicate (n - length (function_rows a c fs)) zero_row) (length (function_rows a c fs)) refl)
      ∙ place_is k 0 a c fs

module _ (x : Input) (entries bytes : List ℕ) (on : Bool) (room : Room) (h : Summary) (e : (outcome_on x entries bytes on room).reply ≡ Ok h) where
  abbrev functions : List Function
  functions = (catalogue_of (object_read x)).functions

  abbrev given : Given x entries bytes on room h
  given = given_is x entries bytes on room h e

  abbrev loaded : Catalogue
  loaded = given.catalogue

  alike : Alike (catalogue_of (object_read x)) loaded
  alike =
      rw (load_is (object_read x) (patches_of entries bytes) on loaded (input-accepted x (patches_of entries bytes) on loaded given.answer).1)
      (alike-finish (object_read x) (patches_of entries bytes) on (catalogue_of (object_read x)))

  abbrev rows : List Row
  rows = function_rows (functions_at loaded) (code_start loaded) functions

  count-is : h.functions ≡ length functions
  unfolding summary_of
  count-is = ap (λ (s : Summary). s.functions) given.summary ∙ alike.functions

  table_is : (outcome_on x entries bytes on room).lent.functions ≡ filled zero_row room.functions rows
  unfolding filled_to image_of
  table_is = ap (λ i. i.functions) given.lent ∙ ap (filled zero_row room.functions) (alike.function-rows (functions_at loaded) (code_start loaded))

  -- the place of the function in the catalogue's order, or nothing
  pub finds : (k : List ℕ) → found_in (outcome_on x entries bytes on room).lent.functions h.functions k ≡ function_place k 0 functions
  finds k =
      ap (λ (t : List Row). found_in t h.functions k) table_is
      ∙ ap (λ (m : ℕ). found_in (filled zero_row room.functions rows) m k) count-is
      ∙ found-there (functions_at loaded) (code_start loaded) room.functions functions (functions-sorted (object_read x)) k

  -- no function of the catalogue has the key
  pub finds-none : (k : List ℕ) → ((f : Function) → f ∈ functions → same (function_key f) k ≡ false) → found_in (outcome_on x entries bytes on room).lent.functions h.functions k ≡ None
  finds-none k other = finds k ∙ place_none k 0 functions other

  -- a function of the catalogue is found at a row of the table that has its section and address
  pub finds-row : (f : Function) → f ∈ functions
      → (i : ℕ) × (found_in (outcome_on x entries bytes on room).lent.functions h.functions (function_key f) ≡ Some i) × (i < h.functions) × (row_key (get_or (outcome_on x entries bytes on room).lent.functions i zero_row) ≡ function_key f)
  finds-row f m =
      let (i, found, l, key) = place-some (function_key f) (functions_at loaded) (code_start loaded) 0 functions f m refl in
      let z : 0 + i ≡ i = omega arith in
      let below : i < length rows = rw length-rows l in
      let row : get_or (filled zero_row room.functions rows) i zero_row ≡ get_or rows i zero_row = get_or-append rows (replicate (room.functions - length rows) zero_row) zero_row i below in
      (i, finds (function_key f) ∙ found ∙ ap Some z, subst (λ (m : ℕ). i < m) (sym count-is) l, ap (λ (t : List Row). row_key (get_or t i zero_row)) table_is ∙ ap row_key row ∙ key)
