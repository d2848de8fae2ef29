use mathlib.Core.Path.{◌≡◌}
use Prim.Native.Nat.{◌≤◌}
use lib.ListN.{take, drop}
use Rattle.records.specs.Of.{of}
use Rattle.object.specs.Group.{programs_among}
use Rattle.parse_programs.proofs.program_numbers.Given as goal

abbrev pub invariant-loop-j : goal.invariant-loop-j
invariant-loop-j l = record {
  few : l.n ≤ l.j-index;
  put : take l.n l.out ≡ of programs_among l.records (take l.j-index l.group);
  rest : drop l.n l.out ≡ drop l.n l.initial.out;
}
