use Rattle.std.proofs.Common.{◌≡◌, ◌++◌, ◌+◌, ◌-◌, ◌≤◌, drop}
use Rattle.stream.specs.Stream.{bytes_at}
use Rattle.stream.specs.Run.{run_at}
use Rattle.bytes_names.proofs.copy_span.Given as goal

abbrev pub invariant-loop-done : goal.invariant-loop-done
invariant-loop-done l =
    record {
      most : l.done ≤ l.span.len;
      stands : l.run ≡ run_at l.span.stream.gap (l.span.at + l.done);
      copied : l.out ≡ bytes_at l.span.stream.bytes.now l.span.stream.gap l.span.at l.done ++ drop l.done l.initial.out;
    }

abbrev pub decreases-loop-done : goal.decreases-loop-done
decreases-loop-done l = l.span.len - l.done
