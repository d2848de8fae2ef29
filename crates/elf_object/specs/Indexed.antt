-- What the index of a file holds.
use Rattle.std.specs.Prelude.{◌≡◌, List, ℕ, ◌+◌, ◌*◌, ◌<◌, length, get_or}
use Rattle.lists.specs.Tab.{rows}
use Rattle.model.specs.Elf.{field, file_of, string_at}
use Rattle.elf_header.specs.Headers.{header_in, headers_in}
use Rattle.elf_header.specs.Used.{places_for}
use Rattle.elf_layout.specs.Layout.{table_number, elf_view}
use Rattle.elf_records.specs.Elf.{index_at}
use Rattle.elf_object.specs.Inside.{section_strings, symbol_strings}

-- where the names begin in their string tables: that of section number i and of symbol number j, counted from 0
abbrev pub section_name_offset : List ℕ → ℕ → ℕ
section_name_offset f i = field (file_of f).order f ((headers_in f).first + 64 * i) 4

abbrev pub symbol_name_offset : List ℕ → ℕ → ℕ
symbol_name_offset f j = field (file_of f).order f ((elf_view f).at.symbols + 24 * j) 4

-- where the relocations of section number i lie, counted from 0
abbrev pub file_places : List ℕ → ℕ → List ℕ
file_places f = places_for f (headers_in f) (table_number (file_of f))

pub record Indexed (f t : List ℕ) : Type 0 where
  pub section-lengths : (i : ℕ) → i < (headers_in f).sections → index_at t i ≡ length (string_at (section_strings f) (header_in f (headers_in f) i).name)
  pub symbol-lengths : (j : ℕ) → j < (elf_view f).symbols
      → index_at t ((headers_in f).sections + j) ≡ length (string_at (symbol_strings f) (symbol_name_offset f j))
  pub firsts : (i : ℕ) → i < (headers_in f).sections → index_at t ((headers_in f).sections + (elf_view f).symbols + i) ≡ length (rows (file_places f) i)
  pub counts : (i : ℕ) → i < (headers_in f).sections → index_at t (2 * (headers_in f).sections + (elf_view f).symbols + i) ≡ length (file_places f i)
  pub places : (k : ℕ) → k < (elf_view f).relocations
      → index_at t (3 * (headers_in f).sections + (elf_view f).symbols + k) ≡ get_or (rows (file_places f) (headers_in f).sections) k 0
