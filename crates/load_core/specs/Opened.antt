-- What a load of what was opened decides: of a deposit, what its definition says.
use Rattle.std.specs.Prelude.{◌≡◌, Bool, List, [], ℕ, Err, Ok, Result}
use Rattle.model.specs.declared.Refusal.{Refusal}
use Rattle.model.specs.declared.Room.{Room}
use Rattle.model.specs.Deposit.{load_deposit}
use Rattle.model.specs.Lent.{outcome_in, load_of}
use Rattle.model.specs.Object.{Patch}
use Rattle.model.specs.PatchList.{patches_of}
use Rattle.model.specs.Patching.{Verdict, refused, load}
use Rattle.records.specs.declared.opened.Object.{Object}
use Rattle.records.specs.Of.{of}
use Rattle.object.specs.Opened.{opened-object}
use Rattle.object.specs.View.{object_in}
use Rattle.deposit.specs.Accepted.{accepted, refused-by}
use Rattle.deposit.specs.Opened.{Opened}

-- why it goes back, or what a load of the object decides
abbrev pub verdict_in : Result Object Refusal → List Patch → Bool → Verdict
verdict_in (Err q) ps on = refused q
verdict_in (Ok o) ps on = load (of object_in o.records) ps on

-- a deposit that was opened: numbers 1 to 3 as its refusal, else its object
pub deposit_outcome : (d : List ℕ) (o : Result Object Refusal) → Opened d o → (entries patches : List ℕ) (on : Bool) (room : Room)
    → outcome_in room (verdict_in o (patches_of entries patches) on) ≡ load_of d entries patches on room
unfolding load_of load_deposit
deposit_outcome d (Err q) w entries patches on room = rw (refused-by d q w)
deposit_outcome d (Ok o) w entries patches on room =
    let v = o.records.view in
    let a = accepted d v w.2 in
    rw (w.0, w.1, a.1.no-refusal, opened-object d [] v w.2)
