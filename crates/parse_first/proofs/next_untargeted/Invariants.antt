use mathlib.Core.Path.{◌≡◌}
use Rattle.records.specs.Of.{of}
use Rattle.parse_first.specs.Targets.{next_untargeted, filled_from}
use Rattle.parse_first.proofs.next_untargeted.Given as goal

abbrev pub invariant-loop-k : goal.invariant-loop-k
invariant-loop-k l = record {
  nearest : l.nearest ≡ of next_untargeted l.records l.k;
  filled : l.next ≡ filled_from (of next_untargeted l.records) l.k l.records.view.relocations l.initial.next;
}
