-- `test_examples::empty_text` meets its contract: no symbols, so the group is empty.
use Rattle.std.proofs.Common.{ap, arith}
use Rattle.model.specs.Deposit.{end_of}
use Rattle.object_view.specs.declared.View.{View}
use Rattle.records.specs.View.{deposit_view}
use Rattle.parse_text.specs.Group.{no_text}
use Rattle.test_examples.proofs.empty_text.Goals as goal

pub deposit_view-requires : goal.deposit_view-requires
unfolding end_of
deposit_view-requires c = omega arith

pub parse_text_section-requires-clause-text : goal.parse_text_section-requires-clause-text
unfolding deposit_view
parse_text_section-requires-clause-text c = no_text _ _ _ _ (ap (λ (v : View). v.symbols) c.deposit_view.ensures)
