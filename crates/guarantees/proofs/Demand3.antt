-- Demand 3, as specs/Demand3.antt states it.
use Rattle.std.specs.Prelude.{◌≡◌, refl, false, List, [], ℕ}
use Rattle.std.proofs.Common.{sym, ap, ◌∙◌}
use Rattle.model.specs.Bytes.{records}
use Rattle.model.specs.Patching.{accepted}
use Rattle.model.specs.PatchList.{patches_of}
use Rattle.model.specs.ReadBack.{read_back}
use Rattle.guarantees.specs.WordsOfDemand3.{object_read, verdict_on, outcome_on, after}
use Rattle.guarantees.proofs.FirstHalf.{first-half}
use Rattle.guarantees.specs.SecondHalf.{accepted-is}
use Rattle.guarantees.proofs.SecondHalf.{sized, finish-is, passed_over, none-reaches, last-reaches, bytes_after, named-becomes, unnamed-stays}
use Rattle.guarantees.specs.AcceptedInputs.{input-accepted, input-stated}
use Rattle.guarantees.proofs.AcceptedInputs.{input-after}
use Rattle.guarantees.proofs.LentBack.{lent-read-back}
use Rattle.guarantees.specs.Demand3.{Demand3First, Demand3Second, EntryPassedOver, FirstLent, Immediates, LastEntry, LaterCall, MapBytes, NoEntry, SecondBoth, SecondLent}

pub demand-3-first : Demand3First
demand-3-first a b c ya yb ha hb fa fb =
    let (ea, la) = input-accepted a [] false c ha in
    let (eb, lb) = input-accepted b [] false c hb in
    first-half (object_read a) (object_read b) c (input-stated a ya ea) (input-stated b yb eb) la lb fa fb

pub demand-3-second : Demand3Second
demand-3-second = input-after

pub map-bytes : MapBytes
map-bytes = bytes_after

pub last_entry : LastEntry
last_entry = last-reaches

pub no-entry : NoEntry
no-entry = none-reaches

pub entry-passed-over : EntryPassedOver
entry-passed-over = passed_over

pub immediates : Immediates
immediates i = (named-becomes i, unnamed-stays i)

pub later-call : LaterCall
later-call o ps on c h = finish-is o ps on c (sized o c.maps 1 ps h)

-- ---- the same of the call, with what it lends: the catalogue is read back from the answer and the lent tables

no-patches : (bytes : List ℕ) → patches_of [] bytes ≡ []
unfolding patches_of records
no-patches bytes = refl

pub first-lent : FirstLent
first-lent a b bytes bytes₂ room room₂ h ya yb ha hb l fa fb =
    let ea = lent-read-back a [] bytes false room h ya ha in
    let eb = lent-read-back b [] bytes₂ false room₂ h yb hb ∙ ap (λ x. accepted (read_back h x)) (sym l) in
    demand-3-first a b (read_back h (outcome_on a [] bytes false room).lent) ya yb (rw (no-patches bytes) at ea) (rw (no-patches bytes₂) at eb) fa fb

pub second-lent : SecondLent
second-lent x entries bytes on room h y q =
    demand-3-second x (patches_of entries bytes) on (read_back h (outcome_on x entries bytes on room).lent) (lent-read-back x entries bytes on room h y q)

pub second-both : SecondBoth
second-both x entries bytes bytes₂ on room room₂ h k y q r =
    let (e, p) = second-lent x entries bytes on room h y q in
    let f = lent-read-back x [] bytes₂ false room₂ k y r in
    let g : verdict_on x [] false ≡ accepted (read_back k (outcome_on x [] bytes₂ false room₂).lent) = rw (no-patches bytes₂) at f in
    p ∙ ap (after (object_read x) (patches_of entries bytes) on) (accepted-is (sym e ∙ g))
