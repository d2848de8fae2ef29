-- `records::Records::section_name` meets its contract.
use Prim.Native.Nat.{◌+◌, ◌*◌}
use mathlib.Core.Path.{sym, ◌∙◌}
use Rattle.records.specs.View.{section_at}
use Rattle.records.specs.Fields.{extent-bytes, section-name}
use Rattle.records.proofs.opened.Records.section_name.Goals as goal

pub returns-in-Deposit : goal.returns-in-Deposit
unfolding section_at
returns-in-Deposit c = let a = c.args in rw c.in-Deposit.is (c.record_at.ensures ∙ extent-bytes a.self.bytes.now 4 _ ∙ sym (section-name a.self.bytes.now 4 (a.self.view.at.sections + 48 * a.i)))
