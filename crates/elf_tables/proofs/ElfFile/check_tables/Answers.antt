-- `elf_tables::ElfFile::check_tables` meets its contract: each test in its turn.
use mathlib.Core.Path.{sym, ◌∙◌}
use Rattle.elf_tables.specs.Checked.{tables-by}
use Rattle.elf_tables.proofs.ElfFile.check_tables.Goals as goal
use Rattle.elf_tables.proofs.ElfFile.check_tables.Goals.{else-room_ok-via-then-room_ok+then-names_linked+else-symbol_table_fits, else-room_ok-via-then-room_ok+else-names_linked, else-room_ok-via-else-room_ok}

pub returns-then-symbol_table_fits : goal.returns-then-symbol_table_fits
returns-then-symbol_table_fits c =
    let s = c.args.self in
    c.count_relocations.ensures
    ∙ sym
    (tables-by s.sections.bytes.now s.header s.sections.headers s.table c.requires
    ∙ rw (
      ← c.room_ok.ensures,
      c.if-room_ok.true,
      ← c.names_linked.ensures,
      c.if-names_linked.true,
      ← c.symbol_table_fits.ensures,
      c.if-symbol_table_fits.true,
    ))

pub returns-else-room_ok : goal.returns-else-room_ok
returns-else-room_ok c =
    let s = c.args.self in
    sym
    (tables-by s.sections.bytes.now s.header s.sections.headers s.table c.requires
    ∙ elim c.else-room_ok.branch [
      | else-room_ok-via-then-room_ok+then-names_linked+else-symbol_table_fits w ↦ rw (
        ← c.room_ok.ensures,
        w.if-room_ok.true,
        ← w.names_linked.ensures,
        w.if-names_linked.true,
        ← w.symbol_table_fits.ensures,
        w.if-symbol_table_fits.false,
      )
      | else-room_ok-via-then-room_ok+else-names_linked w ↦ rw (← c.room_ok.ensures, w.if-room_ok.true, ← w.names_linked.ensures, w.if-names_linked.false)
      | else-room_ok-via-else-room_ok w ↦ rw (← c.room_ok.ensures, w.if-room_ok.false)
    ])
