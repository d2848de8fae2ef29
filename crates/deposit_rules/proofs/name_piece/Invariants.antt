use mathlib.Core.Path.{◌≡◌}
use lib.ListN.{take}
use Rattle.model.specs.Deposit.{all}
use Rattle.deposit_rules.specs.Rules.{name_byte}
use Rattle.deposit_rules.specs.Names.{between}
use Rattle.deposit_rules.proofs.name_piece.Given as goal

abbrev pub invariant-loop-x : goal.invariant-loop-x
invariant-loop-x l = all name_byte (take l.x-index l.b) ≡ between l.low l.high
