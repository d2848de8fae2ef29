use mathlib.Core.Path.{◌≡◌}
use Prim.Native.Nat.{◌-◌, ◌≤◌}
use Rattle.records.specs.Of.{of}
use Rattle.parse_first.specs.Named.{named_below}
use Rattle.parse_first.proofs.find_named.Given as goal

abbrev pub invariant-loop-i : goal.invariant-loop-i
invariant-loop-i l = record {
  inside : l.c.at ≤ l.c.end;
  end : l.c.end ≡ l.records.view.sections;
  found : l.found ≡ of named_below l.records l.c.at;
}

abbrev pub decreases-loop-i : goal.decreases-loop-i
decreases-loop-i l = l.c.end - l.c.at
