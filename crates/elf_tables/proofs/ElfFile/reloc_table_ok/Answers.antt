-- `elf_tables::ElfFile::reloc_table_ok` meets its contract.
use mathlib.Core.Path.{◌≡◌, ap, ◌∙◌}
use Rattle.model.specs.ElfRefusals.{reloc_table_ok}
use Rattle.elf_header.specs.Headers.{header_in}
use Rattle.elf_tables.specs.Numbered.{sections_by}
use Rattle.elf_tables.specs.Checked.{linked_type, links-data}
use Rattle.elf_tables.proofs.ElfFile.reloc_table_ok.Goals as goal
use Rattle.elf_tables.proofs.ElfFile.reloc_table_ok.Goals.{After-linked_type}

-- what the section that the table belongs to answers
linked : (c : After-linked_type) →
    let s = c.args.self.sections in
    c.linked_type.result ≡ linked_type (sections_by s.bytes.now s.headers) (header_in s.bytes.now s.headers c.args.i).info
linked c =
    let s = c.args.self.sections in
    c.linked_type.ensures ∙ ap (linked_type (sections_by s.bytes.now s.headers)) c.section_info.ensures

pub returns-then-not-is_relocations : goal.returns-then-not-is_relocations
unfolding reloc_table_ok
returns-then-not-is_relocations c =
    rw (links-data, ← linked (goal.at.returns-then-not-is_relocations c).After-linked_type, c.in-Some.is, ← c.is_relocations.ensures, c.if-not-is_relocations.true)
    c.whole_entries.ensures

pub returns-else-not-is_relocations : goal.returns-else-not-is_relocations
unfolding reloc_table_ok
returns-else-not-is_relocations c =
    rw (links-data, ← linked (goal.at.returns-else-not-is_relocations c).After-linked_type, c.in-Some.is, ← c.is_relocations.ensures, c.if-not-is_relocations.false)

pub returns-in-None : goal.returns-in-None
unfolding reloc_table_ok
returns-in-None c = rw (links-data, ← linked (goal.at.returns-in-None c).After-linked_type, c.in-None.is)
