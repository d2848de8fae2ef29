-- `elf_tables::ElfFile::entry_ok` meets its contract: sh_entsize where it lies in the file.
use mathlib.Core.Path.{◌∙◌}
use Prim.Native.Nat.{◌+◌, ◌*◌}
use native.Mathlib.Omega.{arith}
use Rattle.model.specs.Elf.{header_of}
use Rattle.elf_laws.specs.Places.{part-part}
use Rattle.elf_tables.proofs.ElfFile.entry_ok.Goals as goal

pub returns : goal.returns
unfolding header_of
returns c =
    let s = c.args.self.sections in
    c.field_is.ensures
    ∙ rw (
      c.entry_size-width.ensures.0,
      c.section_type.ensures,
      part-part s.bytes.now (s.headers.first + 64 * c.args.i) 64 56 8 (omega arith),
    )
