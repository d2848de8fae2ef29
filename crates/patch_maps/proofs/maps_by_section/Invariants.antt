use mathlib.Core.Path.{◌≡◌}
use mathlib.Core.List.{◌++◌}
use lib.ListN.{drop}
use Rattle.patch_maps.specs.Places.{places_from}
use Rattle.patch_maps.proofs.maps_by_section.Given as goal

abbrev pub invariant-loop-k : goal.invariant-loop-k
invariant-loop-k l = let r = l.object.records in l.by ≡ places_from r.bytes.now r.index.now r.view l.maps l.k ++ drop r.view.sections l.fn.by
