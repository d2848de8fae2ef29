-- What holds of an input that is accepted, a deposit or a file: its own refusals let it pass, so its object is `Stated`, and its load is its object's.
use Rattle.std.specs.Prelude.{◌≡◌, refl, Bool, List, ℕ, None, Option, Some}
use Rattle.std.proofs.Common.{sym, ◌∙◌, arith}
use Rattle.model.specs.declared.Refusal.{Refusal}
use Rattle.model.specs.declared.Room.{Room}
use Rattle.model.specs.Bytes.{maybe, AllBytes}
use Rattle.model.specs.Object.{Patch}
use Rattle.model.specs.Catalogue.{Catalogue}
use Rattle.model.specs.Patching.{refused, accepted, load}
use Rattle.model.specs.Deposit.{deposit_refusal, load_deposit}
use Rattle.model.specs.PatchList.{patches_of}
use Rattle.model.specs.Lent.{outcome_in, load_of}
use Rattle.model.specs.ElfRefusals.{elf_refusal, load_elf, load_elf_of}
use Rattle.guarantees.specs.WordsOfDemand3.{Input, input_bytes, object_read, verdict_on, outcome_on}
use Rattle.guarantees.specs.AcceptedObjects.{Stated}
use Rattle.guarantees.specs.AcceptedDeposits.{deposit-stated, deposit-passed}
use Rattle.guarantees.specs.AcceptedFiles.{elf-stated}

-- 1 to 3 of a deposit; 25, 26 and 3 of a file
abbrev pub input_refusal : Input → Option Refusal
input_refusal (Input.deposit d) = deposit_refusal d
input_refusal (Input.file f) = elf_refusal f

-- ---- what the calls say, once for both

pub verdict-is : (x : Input) (ps : List Patch) (on : Bool) → verdict_on x ps on ≡ maybe (input_refusal x) (load (object_read x) ps on) (λ r. refused r)
unfolding load_deposit load_elf
verdict-is (Input.deposit d) ps on = refl
verdict-is (Input.file f) ps on = refl

pub outcome-is : (x : Input) (entries bytes : List ℕ) (on : Bool) (room : Room)
    → outcome_on x entries bytes on room ≡ outcome_in room (verdict_on x (patches_of entries bytes) on)
unfolding load_of load_elf_of
outcome-is (Input.deposit d) entries bytes on room = refl
outcome-is (Input.file f) entries bytes on room = refl

-- ---- what is accepted

pub input-accepted : (x : Input) (ps : List Patch) (on : Bool) (c : Catalogue) → verdict_on x ps on ≡ accepted c
    → (input_refusal x ≡ None) × (load (object_read x) ps on ≡ accepted c)
input-accepted x ps on c h = go (input_refusal x) refl (sym (verdict-is x ps on) ∙ h)
  where
    go : (r : Option Refusal) → input_refusal x ≡ r → maybe r (load (object_read x) ps on) (λ q. refused q) ≡ accepted c
        → (input_refusal x ≡ None) × (load (object_read x) ps on ≡ accepted c)
    go None e q = (e, q)
    go (Some r) e q = let z : ◌≡◌ {A = ℕ} 0 1 = cc in let no : ⊥ = omega arith in absurd no

-- its section indexes rise from 1, and its data are bytes
pub input-stated : (x : Input) → AllBytes (input_bytes x) → input_refusal x ≡ None → Stated (object_read x)
input-stated (Input.deposit d) y e = deposit-stated d y (deposit-passed d e)
input-stated (Input.file f) y e = elf-stated f y
