use Rattle.std.proofs.Common.{◌≡◌, ◌≤◌, ◌-◌, ◌*◌, ◌++◌, drop}
use Rattle.insn.specs.Sanitized.{slots}
use Rattle.insn.proofs.sanitize_code.Given as goal

abbrev pub invariant-loop-slot : goal.invariant-loop-slot
invariant-loop-slot l = (l.slot ≤ l.n) × (l.code ≡ slots l.slot l.initial.code ++ drop (l.slot * 8) l.initial.code)

abbrev pub decreases-loop-slot : goal.decreases-loop-slot
decreases-loop-slot l = l.n - l.slot
