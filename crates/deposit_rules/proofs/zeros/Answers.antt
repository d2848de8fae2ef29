-- `deposit_rules::zeros` meets its contract.
use mathlib.Core.Path.{◌∙◌}
use borrow.Author.Rules.{rules}
use Rattle.std.proofs.Common.{ℕ, eqb, tests}
use Rattle.std.proofs.lemmas.Iterator.{YieldsList-from_slice}
use Rattle.std.proofs.lemmas.Iterator.Search.{all_from_yields_List}
use Rattle.model.specs.Deposit.{all_zero}
use Rattle.deposit_rules.specs.Names.{all-list}
use Rattle.deposit_rules.proofs.zeros.Goals as goal

pub returns : goal.returns
unfolding all_zero
returns c =
    let b = c.args.b.now in
    all_from_yields_List (λ (x : ℕ). eqb x 0) _ _ _ c.all.ensures.ran (YieldsList-from_slice b cc) (λ x r q k. search (rules, tests))
    ∙ all-list (λ (x : ℕ). eqb x 0) b
