use Rattle.std.proofs.Common.{◌≡◌, ◌++◌, drop}
use Rattle.stream.specs.Stream.{bytes_at}
use Rattle.stream.proofs.copy_plain.Given as goal

abbrev pub invariant-loop-k : goal.invariant-loop-k
invariant-loop-k l = l.t ≡ bytes_at l.d 0 l.i l.k ++ drop l.k l.initial.t
