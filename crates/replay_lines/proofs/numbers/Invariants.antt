use Rattle.std.proofs.Common.{◌≤◌, length}
use Rattle.replay_lines.proofs.numbers.Given as goal

abbrev pub invariant-loop-n : goal.invariant-loop-n
invariant-loop-n l = length l.rest ≤ length l.s
