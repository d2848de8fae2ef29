-- `elf_tables::ElfFile::links_strings` meets its contract.
use Rattle.elf_tables.specs.Checked.{links-strings}
use Rattle.elf_tables.proofs.ElfFile.links_strings.Goals as goal

pub returns-in-Some : goal.returns-in-Some
returns-in-Some c = rw (links-strings, ← c.linked_type.ensures, c.in-Some.is)

pub returns-in-None : goal.returns-in-None
returns-in-None c = rw (links-strings, ← c.linked_type.ensures, c.in-None.is)
