-- `elf_records::FileBytes::four` meets its contract.
use native.Mathlib.Omega.{arith}
use Rattle.elf_records.specs.Orders.{four-little, four-big}
use Rattle.elf_records.proofs.FileBytes.four.Goals as goal

pub returns-in-Little : goal.returns-in-Little
returns-in-Little c = let a = c.args in omega (arith, four-little a.self.bytes.now a.i a.self.order c.in-Little.is (omega arith))

pub returns-in-Big : goal.returns-in-Big
returns-in-Big c = let a = c.args in omega (arith, four-big a.self.bytes.now a.i a.self.order c.in-Big.is (omega arith))
