use mathlib.Core.Path.{◌≡◌}
use mathlib.Core.Bool.{true}
use Prim.Native.Nat.{ℕ, ◌<◌}
use Rattle.model.specs.ElfRefusals.{entry_ok}
use Rattle.elf_header.specs.Headers.{header_in}
use Rattle.elf_tables.specs.Checked.{used_ok}
use Rattle.elf_tables.proofs.ElfFile.used_entries_ok.Given as goal

abbrev pub invariant-loop-i : goal.invariant-loop-i
invariant-loop-i l =
    let s = l.self.sections in
    (k : ℕ) → k < l.i → used_ok l.self.table (entry_ok s.headers.order) (header_in s.bytes.now s.headers k) ≡ true
