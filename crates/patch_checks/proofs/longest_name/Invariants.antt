use mathlib.Core.Path.{◌≡◌}
use Rattle.patch_checks.specs.Entries.{longest}
use Rattle.patch_checks.proofs.longest_name.Given as goal

abbrev pub invariant-loop-e : goal.invariant-loop-e
invariant-loop-e l = l.bytes ≡ longest l.entries l.e
