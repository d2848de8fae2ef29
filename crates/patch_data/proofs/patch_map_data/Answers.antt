-- `patch_data::patch_map_data` meets its contract: at entry e the bytes are what the maps own once e entries have acted.
use mathlib.Core.Path.{◌≡◌, ap, ◌∙◌}
use native.Mathlib.Omega.{arith}
use Rattle.records.specs.Of.{of}
use Rattle.object.specs.View.{object_in}
use Rattle.catalogue_numbers.specs.Numbers.{map_numbers}
use Rattle.patch_checks.specs.Entries.{entry_count}
use Rattle.patch_checks.specs.Checks.{maps_of_numbers, rest-none}
use Rattle.patch_data.specs.Ready.{own_at, starts, ends, checks-all}
use Rattle.patch_data.proofs.patch_map_data.Goals as goal

pub loop-e-init : goal.loop-e-init
loop-e-init c =
    let a = c.args in
    let r = a.object.records in
    let entries = a.list.entries.now in
    let lent = a.list.bytes.now in
    (checks-all r.bytes.now r.index.now r.view a.object.readable entries lent c.requires.1, c.requires.2 ∙ starts r.bytes.now r.index.now r.view a.object.readable entries lent)

pub loop-e-preserved : goal.loop-e-preserved
loop-e-preserved c =
    let a = c.args in
    let r = a.object.records in
    let l = c.loop-e in
    ((rest-none (of object_in r) (of maps_of_numbers r (of map_numbers r)) a.list.entries.now a.list.bytes.now l.e (omega arith) l.invariant.0).1, c.patch_entry.ensures)

pub returns : goal.returns
returns c =
    let a = c.args in
    let r = a.object.records in
    let l = c.loop-e in
    let entries = a.list.entries.now in
    let lent = a.list.bytes.now in
    let e : l.e ≡ entry_count entries = omega arith in
    l.invariant.1 ∙ ap (of own_at r entries lent) e ∙ ends r.bytes.now r.index.now r.view a.object.readable entries lent
