-- What holds of an input that is accepted, a deposit or a file: its symbols' indexes are at least 1, and its catalogue is `after` of the plain one.
use Rattle.std.specs.Prelude.{◌≡◌, Bool, false, List, [], ◌<◌, None}
use Rattle.std.proofs.Common.{◌∙◌}
use Rattle.model.specs.Bytes.{◌∈◌}
use Rattle.model.specs.Object.{Symbol, Patch}
use Rattle.model.specs.Catalogue.{Catalogue}
use Rattle.model.specs.Contents.{catalogue_of}
use Rattle.model.specs.Patching.{accepted, load}
use Rattle.guarantees.specs.WordsOfDemand3.{Input, object_read, verdict_on, after}
use Rattle.guarantees.specs.AcceptedDeposits.{symbols-from-1, deposit-passed}
use Rattle.guarantees.specs.AcceptedFiles.{elf-symbols-from-1}
use Rattle.guarantees.proofs.SecondHalf.{second-half}
use Rattle.guarantees.specs.AcceptedInputs.{input-accepted, input_refusal, verdict-is}

pub input-symbols : (x : Input) (y : Symbol) → input_refusal x ≡ None → y ∈ (object_read x).symbols → 0 < y.index.0
input-symbols (Input.deposit d) y e m = symbols-from-1 d y (deposit-passed d e) m
input-symbols (Input.file f) y e m = elf-symbols-from-1 f y m

load_again : (x : Input) (c : Catalogue) → input_refusal x ≡ None → load (object_read x) [] false ≡ accepted c → verdict_on x [] false ≡ accepted c
load_again x c e h = verdict-is x [] false ∙ rw e h

-- what is accepted with a patch list and rewriting on or off is accepted without either, and its catalogue is that one but for what `after` says
pub input-after : (x : Input) (ps : List Patch) (on : Bool) (c : Catalogue) → verdict_on x ps on ≡ accepted c
    → (verdict_on x [] false ≡ accepted (catalogue_of (object_read x))) × (c ≡ after (object_read x) ps on (catalogue_of (object_read x)))
input-after x ps on c h =
    let (e, k) = input-accepted x ps on c h in
    let (p, q) = second-half (object_read x) ps on c k in
    (load_again x (catalogue_of (object_read x)) e p, q)
