use mathlib.Core.Path.{◌≡◌}
use mathlib.Core.Bool.{false}
use Prim.Native.Nat.{ℕ, ◌<◌}
use Rattle.model.specs.Elf.{is_type}
use Rattle.elf_header.specs.Headers.{header_in}
use Rattle.elf_tables.proofs.symbol_table.Given as goal

abbrev pub invariant-loop-i : goal.invariant-loop-i
invariant-loop-i l = (k : ℕ) → k < l.i → is_type 2 (header_in l.sections.bytes.now l.sections.headers k) ≡ false
