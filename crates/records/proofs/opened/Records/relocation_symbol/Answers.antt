-- `records::Records::relocation_symbol` meets its contract.
use Prim.Native.Nat.{◌+◌, ◌*◌}
use Rattle.records.specs.View.{relocation_at}
use Rattle.records.specs.Fields.{relocation-symbol}
use Rattle.records.proofs.opened.Records.relocation_symbol.Goals as goal

pub returns-in-Deposit : goal.returns-in-Deposit
unfolding relocation_at
returns-in-Deposit c = let a = c.args in rw c.in-Deposit.is (cc (relocation-symbol a.self.bytes.now 4 (a.self.view.at.relocations + 16 * a.i)))
