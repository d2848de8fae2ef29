use mathlib.Core.Path.{◌≡◌}
use Rattle.records.specs.Of.{of}
use Rattle.object.specs.View.{object_in}
use Rattle.patch_checks.specs.Checks.{maps_of_numbers, rest_at}
use Rattle.patch_checks.proofs.patch_refusal.Given as goal

abbrev pub invariant-loop-e : goal.invariant-loop-e
invariant-loop-e l =
    let r = l.object.records in
    let rest = rest_at (of object_in r) (of maps_of_numbers r l.maps) l.list.entries.now l.list.bytes.now in
    rest 0 ≡ rest l.e
