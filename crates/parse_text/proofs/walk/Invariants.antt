use Prim.Native.Nat.{◌-◌, ◌≤◌}
use lib.ListN.{length}
use Rattle.records.specs.Of.{of}
use Rattle.parse_text.specs.Search.{SearchStands}
use Rattle.parse_text.specs.Walking.{Walking}
use Rattle.parse_text.proofs.walk.Given as goal

abbrev pub invariant-loop-j : goal.invariant-loop-j
invariant-loop-j l = (length l.rest ≤ length l.initial.rest) × of SearchStands l.records l.s l.address l.rest

abbrev pub decreases-loop-j : goal.decreases-loop-j
decreases-loop-j l = length l.rest

abbrev pub invariant-loop-offset : goal.invariant-loop-offset
invariant-loop-offset l = of Walking l.records l.s l.initial.out l.offset l.rest l.n l.out

abbrev pub decreases-loop-offset : goal.decreases-loop-offset
decreases-loop-offset l = l.len - l.offset
