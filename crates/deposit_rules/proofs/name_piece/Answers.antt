-- `deposit_rules::name_piece` meets its contract: the bytes passed are 1 to 127 where the least and the greatest of them are.
use mathlib.Core.Path.{sym, ap₂, ◌∙◌}
use native.Mathlib.Omega.{arith}
use Rattle.model.specs.Deposit.{all}
use Rattle.deposit_rules.specs.Names.{between, between_more}
use Rattle.deposit_rules.proofs.name_piece.Goals as goal

pub loop-x-init : goal.loop-x-init
unfolding all
loop-x-init c = cc

pub loop-x-preserved : goal.loop-x-preserved
loop-x-preserved c =
    between_more c.args.b.now c.loop-x.x-index c.loop-x.low c.loop-x.high (omega arith) c.loop-x.invariant
    ∙ sym (ap₂ between c.min-low.ensures c.max-high.ensures)
