use Rattle.std.proofs.Common.{◌≡◌, ◌-◌, ◌≤◌}
use Rattle.model.specs.Deposit.{has_btf}
use Rattle.records.specs.Of.{of}
use Rattle.object.specs.View.{object_in}
use Rattle.elf.specs.Btf.{btf_from}
use Rattle.elf.proofs.has_btf.Given as goal

abbrev pub invariant-loop-i : goal.invariant-loop-i
invariant-loop-i l = (l.c.at ≤ l.c.end) × (l.c.end ≡ l.records.view.sections) × (has_btf (of object_in l.records) ≡ of btf_from l.records l.c.at)

abbrev pub decreases-loop-i : goal.decreases-loop-i
decreases-loop-i l = l.c.end - l.c.at
