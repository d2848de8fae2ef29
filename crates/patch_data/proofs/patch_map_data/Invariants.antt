use mathlib.Core.Path.{◌≡◌}
use Rattle.records.specs.Of.{of}
use Rattle.patch_data.specs.Ready.{own_at, checks_at}
use Rattle.patch_data.proofs.patch_map_data.Given as goal

abbrev pub invariant-loop-e : goal.invariant-loop-e
invariant-loop-e l =
    let r = l.object.records in
    let list = l.list in
    of checks_at r list.entries.now list.bytes.now l.e × (l.bytes ≡ of own_at r list.entries.now list.bytes.now l.e)
