-- The tables in use, by their headers.
use Rattle.std.specs.Prelude.{Bool, cond, ◌&&◌, not, List, ℕ, suc, ◌+◌, ◌*◌, eqb}
use Rattle.lists.specs.Tab.{tab}
use Rattle.model.specs.Bytes.{keep, each}
use Rattle.model.specs.Elf.{Header, is_relocations, entry_size, entry_count}
use Rattle.elf_header.specs.declared.Headers.{Headers}
use Rattle.elf_header.specs.Headers.{header_in}

-- a REL or RELA table linked to the section of that number, but for one of section 0
abbrev pub used_by : ℕ → Header → Bool
used_by table h = is_relocations h && (eqb h.link table && not (eqb h.info 0))

-- all of them, in section order
abbrev pub used_in : List ℕ → Headers → ℕ → List Header
used_in f h table = keep (used_by table) (tab (header_in f h) h.sections)

-- where the entries of a table lie, and those of the tables of section number i, counted from 0
unfoldable pub table_places : Header → List ℕ
table_places t = tab (λ k. t.offset + entry_size t * k) (entry_count t)

unfoldable pub places_for : List ℕ → Headers → ℕ → ℕ → List ℕ
places_for f h table i = each table_places (keep (λ t. eqb t.info (suc i)) (used_in f h table))

abbrev pub entry_size_of : ℕ → ℕ
entry_size_of kind = cond (eqb kind 9) 16 24
