-- `elf_records::FileBytes::two` meets its contract.
use native.Mathlib.Omega.{arith}
use Rattle.elf_records.specs.Orders.{two-little, two-big}
use Rattle.elf_records.proofs.FileBytes.two.Goals as goal

pub returns-in-Little : goal.returns-in-Little
returns-in-Little c = let a = c.args in let e = two-little a.self.bytes.now a.i a.self.order c.in-Little.is (omega arith) in (omega (arith, e), omega arith)

pub returns-in-Big : goal.returns-in-Big
returns-in-Big c = let a = c.args in let e = two-big a.self.bytes.now a.i a.self.order c.in-Big.is (omega arith) in (omega (arith, e), omega arith)
