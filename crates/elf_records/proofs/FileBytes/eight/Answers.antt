-- `elf_records::FileBytes::eight` meets its contract.
use native.Mathlib.Omega.{arith}
use Rattle.elf_records.specs.Orders.{eight-little, eight-big}
use Rattle.elf_records.proofs.FileBytes.eight.Goals as goal

pub returns-in-Little : goal.returns-in-Little
returns-in-Little c = let a = c.args in omega (arith, eight-little a.self.bytes.now a.i (omega arith) a.self.order c.in-Little.is)

pub returns-in-Big : goal.returns-in-Big
returns-in-Big c = let a = c.args in omega (arith, eight-big a.self.bytes.now a.i (omega arith) a.self.order c.in-Big.is)
