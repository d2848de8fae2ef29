use Rattle.std.proofs.Common.{◌≡◌, ◌++◌, take, drop}
use Rattle.lists.proofs.copy.Given as goal

abbrev pub invariant-loop-i : goal.invariant-loop-i
invariant-loop-i g l = l.dst ≡ take l.i l.src ++ drop l.i l.initial.dst
