use mathlib.Core.Path.{◌≡◌}
use lib.ListN.{length}
use Rattle.records.specs.Of.{of}
use Rattle.parse_sections.specs.Pass.{Going}
use Rattle.parse_sections.proofs.parse_sections.Given as goal

abbrev pub invariant-loop-i : goal.invariant-loop-i
invariant-loop-i l =
    (length l.functions ≡ length l.initial.functions) × of Going l.object.records l.symbols l.sections l.programs l.functions l.maps l.i l.from l.n
