-- `records::Records::symbol_address` meets its contract.
use Prim.Native.Nat.{◌+◌, ◌*◌}
use Rattle.records.specs.View.{symbol_at}
use Rattle.records.specs.Fields.{symbol-address}
use Rattle.records.proofs.opened.Records.symbol_address.Goals as goal

pub returns-in-Deposit : goal.returns-in-Deposit
unfolding symbol_at
returns-in-Deposit c = let a = c.args in rw c.in-Deposit.is (cc (symbol-address a.self.bytes.now 4 (a.self.view.at.symbols + 40 * a.i)))
