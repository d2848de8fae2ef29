-- What a call lends back: its catalogue can be read back from it, so equal answers and contents mean equal catalogues; and no lent length changes. proofs/LentBack.antt shows it.
use Rattle.std.specs.Prelude.{◌≡◌, refl, Bool, true, false, List, ℕ, length, Ok}
use Rattle.std.proofs.Common.{sym, ap, ◌∙◌, arith}
use Rattle.model.specs.declared.Summary.{Summary}
use Rattle.model.specs.Catalogue.{Catalogue}
use Rattle.model.specs.Patching.{Verdict, refused, accepted}
use Rattle.model.specs.PatchList.{patches_of}
use Rattle.model.specs.Lent.{summary_of, Lent, image_of, fits_in, filled_to, outcome_if_fits, outcome_in}
use Rattle.model.specs.declared.Room.{Room}
use Rattle.model.specs.ReadBack.{read_back}
use Rattle.model.specs.Bytes.{AllBytes}
use Rattle.guarantees.specs.WordsOfDemand3.{Input, input_bytes, verdict_on, outcome_on}
use Rattle.guarantees.specs.AcceptedInputs.{outcome-is}

-- ---- what is lent back

-- where the answer is a catalogue's: which, that it fitted, and what the lent tables hold
pub record Given (x : Input) (entries bytes : List ℕ) (on : Bool) (room : Room) (h : Summary) : Type 0 where
  pub catalogue : Catalogue
  pub answer : verdict_on x (patches_of entries bytes) on ≡ accepted catalogue
  pub fits : fits_in room (image_of catalogue) ≡ true
  pub summary : h ≡ summary_of catalogue
  pub lent : (outcome_on x entries bytes on room).lent ≡ filled_to room (image_of catalogue)

pub given_is : (x : Input) (entries bytes : List ℕ) (on : Bool) (room : Room) (h : Summary) → (outcome_on x entries bytes on room).reply ≡ Ok h
    → Given x entries bytes on room h
given_is x entries bytes on room h q = go (verdict_on x (patches_of entries bytes) on) refl (ap (λ z. z.reply) (sym (outcome-is x entries bytes on room)) ∙ q)
  where
    fit : (c : Catalogue) (b : Bool) → verdict_on x (patches_of entries bytes) on ≡ accepted c → fits_in room (image_of c) ≡ b
        → (outcome_if_fits room c b).reply ≡ Ok h → Given x entries bytes on room h
    fit c true e f q =
        let s : h ≡ summary_of c = cc in
        let l : (outcome_on x entries bytes on room).lent ≡ filled_to room (image_of c) =
        ap (λ z. z.lent) (outcome-is x entries bytes on room) ∙ ap (λ z. (outcome_in room z).lent) e ∙ ap (λ b. (outcome_if_fits room c b).lent) f in
        record { catalogue = c; answer = e; fits = f; summary = s; lent = l }
    fit c false e f q = let z : ◌≡◌ {A = ℕ} 0 1 = cc in let no : ⊥ = omega arith in absurd no

    go : (a : Verdict) → verdict_on x (patches_of entries bytes) on ≡ a → (outcome_in room a).reply ≡ Ok h → Given x entries bytes on room h
    go (refused r) e q = let z : ◌≡◌ {A = ℕ} 0 1 = cc in let no : ⊥ = omega arith in absurd no
    go (accepted c) e q = fit c (fits_in room (image_of c)) e refl q

-- The catalogue is recovered from the answer's values and what the call left in the lent tables
abbrev pub LentReadBack : Type 0
LentReadBack =
    (x : Input) (entries bytes : List ℕ) (on : Bool) (room : Room) (h : Summary) → AllBytes (input_bytes x)
    → (outcome_on x entries bytes on room).reply ≡ Ok h
    → verdict_on x (patches_of entries bytes) on ≡ accepted (read_back h (outcome_on x entries bytes on room).lent)

-- equal answers and lent contents mean equal catalogues, of a deposit and a file too
abbrev pub OneCatalogue : Type 0
OneCatalogue =
    (a b : Input) (entries bytes entries₂ bytes₂ : List ℕ) (on on₂ : Bool) (room room₂ : Room) (h : Summary)
    → AllBytes (input_bytes a) → AllBytes (input_bytes b)
    → (outcome_on a entries bytes on room).reply ≡ Ok h → (outcome_on b entries₂ bytes₂ on₂ room₂).reply ≡ Ok h
    → (outcome_on a entries bytes on room).lent ≡ (outcome_on b entries₂ bytes₂ on₂ room₂).lent
    → verdict_on a (patches_of entries bytes) on ≡ verdict_on b (patches_of entries₂ bytes₂) on₂

-- ---- the lent lengths stay

pub record Lengths (room : Room) (i : Lent) : Type 0 where
  pub sections : length i.sections ≡ room.sections
  pub programs : length i.programs ≡ room.programs
  pub functions : length i.functions ≡ room.functions
  pub maps : length i.maps ≡ room.maps
  pub relocations : length i.relocations ≡ room.relocations
  pub bytes : length i.bytes ≡ room.bytes

abbrev pub LentLengths : Type 0
LentLengths =
    (x : Input) (entries bytes : List ℕ) (on : Bool) (room : Room) → Lengths room (outcome_on x entries bytes on room).lent
