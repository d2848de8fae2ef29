use mathlib.Core.Path.{◌≡◌}
use Prim.Native.Nat.{◌+◌, ◌-◌, ◌≤◌}
use Rattle.model.specs.Deposit.{all}
use Rattle.stream.specs.Stream.{bytes_at}
use Rattle.stream.specs.Spans.{bytes_of}
use Rattle.stream.specs.Run.{run_at}
use Rattle.deposit_rules.specs.Rules.{name_byte}
use Rattle.deposit_rules.proofs.name_bytes.Given as goal

abbrev pub invariant-loop-left : goal.invariant-loop-left
invariant-loop-left l =
    (l.left ≤ l.name.len)
    × (l.run ≡ run_at l.name.stream.gap (l.name.at + (l.name.len - l.left)))
    × (all name_byte (bytes_of l.name) ≡ all name_byte (bytes_at l.name.stream.bytes.now l.name.stream.gap (l.name.at + (l.name.len - l.left)) l.left))

abbrev pub decreases-loop-left : goal.decreases-loop-left
decreases-loop-left l = l.left
