-- `elf_tables::ElfFile::read` meets its contract.
use lib.ListN.{length}
use Rattle.elf_header.specs.Headers.{headers-present}
use Rattle.elf_tables.specs.Numbered.{Present}
use Rattle.elf_tables.proofs.ElfFile.read.Goals as goal
use Rattle.elf_tables.proofs.ElfFile.read.Goals.{After-section_headers-sections}

present : (c : After-section_headers-sections) →
    let s = c.section_headers-sections.result in
    Present s.bytes.now s.headers
present c =
    let s = c.section_headers-sections in
    rw (s.ensures.headers, s.ensures.bytes) (headers-present (length c.args.d.now) c.file_header-header.result)

pub symbol_table-table-requires : goal.symbol_table-table-requires
symbol_table-table-requires c = present (goal.at.symbol_table-table-requires c).After-section_headers-sections

pub invariant_of-result : goal.invariant_of-result
invariant_of-result c = record { present = present (goal.at.invariant_of-result c).After-section_headers-sections }
