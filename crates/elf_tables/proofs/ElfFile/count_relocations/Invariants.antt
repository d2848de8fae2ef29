use mathlib.Core.Path.{◌≡◌}
use mathlib.Core.Bool.{true}
use Prim.Native.Nat.{ℕ, ◌*◌, ◌<◌, ◌≤◌}
use lib.ListN.{length}
use Rattle.model.specs.ElfRefusals.{header_ok, reloc_table_ok}
use Rattle.elf_header.specs.Headers.{header_in}
use Rattle.elf_tables.specs.Numbered.{sections_by}
use Rattle.elf_tables.specs.Checked.{used_ok, entries_to}
use Rattle.elf_tables.proofs.ElfFile.count_relocations.Given as goal

abbrev pub invariant-loop-i : goal.invariant-loop-i
invariant-loop-i l =
    let d = l.self.sections.bytes.now in
    let h = l.self.sections.headers in
    record {
      headers : (k : ℕ) → k < l.i → header_ok (length d) (header_in d h k) ≡ true;
      tables : (k : ℕ) → k < l.i → used_ok l.self.table (reloc_table_ok (sections_by d h)) (header_in d h k) ≡ true;
      counted : l.n ≡ entries_to d h l.self.table l.i;
      few : l.n ≤ l.i * 16777216;
    }
