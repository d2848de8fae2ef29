-- Demand 1, its part in the definitions: a refused call zeroes all that was lent and names one number with its places; only a lack of room is 24. proofs/RefusedCalls.antt shows it.
use Rattle.std.specs.Prelude.{◌≡◌, Bool, false, List, ℕ, Err}
use Rattle.model.specs.declared.Refusal.{Refusal}
use Rattle.model.specs.Catalogue.{Catalogue}
use Rattle.model.specs.Patching.{accepted}
use Rattle.model.specs.PatchList.{patches_of}
use Rattle.model.specs.Lent.{image_of, fits_in, zeroed}
use Rattle.model.specs.declared.Room.{Room}
use Rattle.guarantees.specs.WordsOfDemand3.{Input, object_read, verdict_on, outcome_on}
use Rattle.guarantees.specs.RefusalPlaces.{Names, NumberFor}

module _ (x : Input) (entries bytes : List ℕ) (on : Bool) (room : Room) where
  -- there is a catalogue, and it is larger than what was lent
  abbrev pub Larger : Type 0
  Larger = (c : Catalogue) × (verdict_on x (patches_of entries bytes) on ≡ accepted c) × (fits_in room (image_of c) ≡ false)

  -- 'zeroes the lent catalogue'
  abbrev pub RefusedZeroes : Type 0
  RefusedZeroes = (r : Refusal) → (outcome_on x entries bytes on room).reply ≡ Err r → (outcome_on x entries bytes on room).lent ≡ zeroed room

  -- 'one numbered refusal of document 01', which 'names section, symbol and list entry'
  abbrev pub Proper : Refusal → Type 0
  Proper r = NumberFor x r.number × Names (object_read x) (patches_of entries bytes) r

  abbrev pub RefusedNames : Type 0
  RefusedNames = (r : Refusal) → (outcome_on x entries bytes on room).reply ≡ Err r → Proper r

  -- '24 comes last and only when the catalogue is truly larger'
  abbrev pub Only24 : Type 0
  Only24 = (r : Refusal) → (outcome_on x entries bytes on room).reply ≡ Err r → r.number ≡ 24 → Larger
