use mathlib.Core.Path.{◌≡◌}
use lib.ListN.{drop}
use Rattle.model.specs.Bytes.{first_in}
use Rattle.records.specs.Of.{of}
use Rattle.object.specs.Checked.{checked_of}
use Rattle.parse_maps.specs.Fault.{map_refusal_at}
use Rattle.parse_maps.proofs.map_symbols.Given as goal

abbrev pub invariant-loop-j : goal.invariant-loop-j
invariant-loop-j l =
    checked_of (first_in (of map_refusal_at l.records l.s) l.group) ≡ checked_of (first_in (of map_refusal_at l.records l.s) (drop l.j-index l.group))
