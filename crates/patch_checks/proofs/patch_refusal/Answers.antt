-- `patch_checks::patch_refusal` meets its contract: what refuses the list is what refuses its rest at entry e.
use mathlib.Core.Path.{◌≡◌, sym, ap, ◌∙◌}
use Prim.Native.Nat.{◌+◌}
use native.Mathlib.Omega.{arith}
use Rattle.std.proofs.lemmas.Result.{err_from_is_err_and}
use Rattle.model.specs.Refusals.{entry_refusal}
use Rattle.records.specs.Of.{of}
use Rattle.object.specs.Checked.{checked_of}
use Rattle.object.specs.View.{object_in}
use Rattle.patch_checks.specs.declared.Entry.{Entry}
use Rattle.patch_checks.specs.Entries.{patch_by, patch_at}
use Rattle.patch_checks.specs.Checks.{maps_of_numbers, rest_all, rest-refused, rest-next, rest_end}
use Rattle.patch_checks.proofs.patch_refusal.Goals as goal
use Rattle.patch_checks.proofs.patch_refusal.Goals.{After-entry_refusal}

pub entry_refusal-requires : goal.entry_refusal-requires
entry_refusal-requires c =
    (c.requires.0, rw c.entry_at-x.ensures (c.requires.1 c.loop-e.e (omega arith)))

answer : (c : After-entry_refusal)
    → (let a = c.args in
    let r = a.object.records in
    c.entry_refusal.result ≡ checked_of (entry_refusal (of object_in r) (of maps_of_numbers r a.maps.now) (c.loop-e.e + 1) (patch_at a.list.entries.now a.list.bytes.now c.loop-e.e)))
answer c =
    let a = c.args in
    let r = a.object.records in
    c.entry_refusal.ensures
    ∙ ap (λ (x : Entry). checked_of (entry_refusal (of object_in r) (of maps_of_numbers r a.maps.now) (c.loop-e.e + 1) (patch_by a.list.bytes.now x)))
    c.entry_at-x.ensures

pub returns-in_err-entry_refusal : goal.returns-in_err-entry_refusal
returns-in_err-entry_refusal c =
    let a = c.args in
    let r = a.object.records in
    let o = of object_in r in
    let ms = of maps_of_numbers r a.maps.now in
    let l = c.loop-e in
    let w = c.entry_refusal.result in
    let told = c.in_err-entry_refusal.was in
    let p = err_from_is_err_and c.from_residual.result c.from_residual.ensures.1 in
    rw (p.1, p.2) (sym told ∙ rest-refused o ms a.list.entries.now a.list.bytes.now l.e (omega arith) w (answer (goal.at.returns-in_err-entry_refusal c).After-entry_refusal) _ told
    ∙ ap checked_of (sym (rest_all o ms a.list.entries.now a.list.bytes.now ∙ l.invariant)))

pub loop-e-preserved : goal.loop-e-preserved
loop-e-preserved c =
    let a = c.args in
    let r = a.object.records in
    let l = c.loop-e in
    l.invariant
    ∙ (rest-next (of object_in r) (of maps_of_numbers r a.maps.now) a.list.entries.now a.list.bytes.now l.e (omega arith) c.entry_refusal.result
    (answer (goal.at.loop-e-preserved c).After-entry_refusal) c.in_ok-entry_refusal.was).1

pub returns : goal.returns
returns c =
    let a = c.args in
    let r = a.object.records in
    let o = of object_in r in
    let ms = of maps_of_numbers r a.maps.now in
    let l = c.loop-e in
    sym (ap checked_of (rest_all o ms a.list.entries.now a.list.bytes.now ∙ l.invariant ∙ rest_end o ms a.list.entries.now a.list.bytes.now l.e (omega arith)))
