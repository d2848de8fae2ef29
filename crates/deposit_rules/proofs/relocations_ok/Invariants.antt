use mathlib.Core.Path.{◌≡◌}
use lib.ListN.{drop}
use Rattle.lists.specs.Tab.{tab}
use Rattle.model.specs.Deposit.{all, relocation_ok}
use Rattle.records.specs.Records.{deposit_relocation}
use Rattle.deposit_rules.specs.Rules.{relocations_ok}
use Rattle.deposit_rules.proofs.relocations_ok.Given as goal

abbrev pub invariant-loop-i : goal.invariant-loop-i
invariant-loop-i l = relocations_ok l.deposit.bytes.now l.deposit.head ≡ all relocation_ok (drop l.i (tab (deposit_relocation l.deposit.bytes.now l.deposit.head) l.deposit.head.relocations))
