-- `elf_tables::ElfFile::index` meets its contract.
use Rattle.std.proofs.Math.Logic.{⊎_elim, inl, inr}
use native.Mathlib.Omega.{arith}
use Rattle.elf_tables.specs.Numbered.{numbered-outside, numbered-within}
use Rattle.elf_tables.proofs.ElfFile.index.Goals as goal

pub returns-then-n-self : goal.returns-then-n-self
returns-then-n-self c =
    let s = c.args.self.sections in
    numbered-outside s.bytes.now s.headers c.args.n (⊎_elim inl (λ w. inr w.1) c.if-n-self.either)

pub returns-else-n-self : goal.returns-else-n-self
returns-else-n-self c =
    let s = c.args.self.sections in
    (omega arith, numbered-within s.bytes.now s.headers c.args.n (omega arith) (omega arith))
