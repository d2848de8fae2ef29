-- `records::Records::section_index` meets its contract.
use Prim.Native.Nat.{◌+◌, ◌*◌}
use Rattle.records.specs.View.{section_at}
use Rattle.records.specs.Fields.{section-index}
use Rattle.records.proofs.opened.Records.section_index.Goals as goal

pub returns-in-Deposit : goal.returns-in-Deposit
unfolding section_at
returns-in-Deposit c = let a = c.args in rw c.in-Deposit.is (cc (section-index a.self.bytes.now 4 (a.self.view.at.sections + 48 * a.i)))
