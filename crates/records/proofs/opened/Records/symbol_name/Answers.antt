-- `records::Records::symbol_name` meets its contract.
use Prim.Native.Nat.{◌+◌, ◌*◌}
use mathlib.Core.Path.{sym, ◌∙◌}
use Rattle.records.specs.View.{symbol_at}
use Rattle.records.specs.Fields.{extent-bytes, symbol-name}
use Rattle.records.proofs.opened.Records.symbol_name.Goals as goal

pub returns-in-Deposit : goal.returns-in-Deposit
unfolding symbol_at
returns-in-Deposit c = let a = c.args in rw c.in-Deposit.is (c.record_at.ensures ∙ extent-bytes a.self.bytes.now 4 _ ∙ sym (symbol-name a.self.bytes.now 4 (a.self.view.at.symbols + 40 * a.i)))
