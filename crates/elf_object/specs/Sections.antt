-- The section records of a file's view: what they hold.
use Rattle.std.specs.Prelude.{◌≡◌, true, List, ℕ, ◌+◌, ◌*◌, ◌<◌, ◌≤◌}
use Rattle.std.proofs.Common.{arith}
use Rattle.std.proofs.Math.ListN.{length}
use Rattle.model.specs.Bytes.{part}
use Rattle.model.specs.Elf.{field, Header, header_of, file_of, file_data}
use Rattle.model.specs.ElfRefusals.{section_names_ok}
use Rattle.elf_header.specs.Headers.{header_in, file_header_of, headers_of, headers_in}
use Rattle.elf_layout.specs.Layout.{elf_view, layout_of}
use Rattle.elf_records.specs.Elf.{field_at, data_range, num, header_at}
use Rattle.elf_object.specs.Inside.{TablesRuled, section_strings, section-strings, headers-inside, header-passes}
use Rattle.elf_object.specs.Ranges.{field_in, field-first, NameRead, name-read, DataRead, data-read}
use Rattle.elf_object.specs.Indexed.{section_name_offset}
use Rattle.elf_object.specs.Named.{section-offset, section-name-passes}

-- ---- the fields of a header, by its record

-- section number i of a file, counted from 0
abbrev pub header_of_file : List ℕ → ℕ → Header
header_of_file f i = header_in f (headers_in f) i

pub record HeaderRead (f : List ℕ) (i : ℕ) : Type 0 where
  pub name : num f (elf_view f) (header_at f (elf_view f) i) 4 ≡ (header_of_file f i).name
  pub kind : num f (elf_view f) (header_at f (elf_view f) i + 4) 4 ≡ (header_of_file f i).kind
  pub flags : num f (elf_view f) (header_at f (elf_view f) i + 8) 8 ≡ (header_of_file f i).flags
  pub address : num f (elf_view f) (header_at f (elf_view f) i + 16) 8 ≡ (header_of_file f i).address
  pub offset : num f (elf_view f) (header_at f (elf_view f) i + 24) 8 ≡ (header_of_file f i).offset
  pub size : num f (elf_view f) (header_at f (elf_view f) i + 32) 8 ≡ (header_of_file f i).size

module _ (f : List ℕ) (r : TablesRuled f (file_of f)) (i : ℕ) (l : i < (headers_in f).sections) where
  pub header_read : HeaderRead f i
  unfolding elf_view headers_of file_header_of header_of
  header_read =
      let fits : (headers_in f).first + 64 * i + 64 ≤ length f = omega (arith, headers-inside f r) in
      let at : (k w : ℕ) → k + w ≤ 64 → field_at (file_of f).order f ((headers_in f).first + 64 * i + k) w ≡ field (file_of f).order (part f ((headers_in f).first + 64 * i) 64) k w =
      field_in f ((headers_in f).first + 64 * i) 64 fits (file_of f).order
      in
      record {
        name = field-first f ((headers_in f).first + 64 * i) 64 fits (file_of f).order 4 (omega arith);
        kind = at 4 4 (omega arith);
        flags = at 8 8 (omega arith);
        address = at 16 8 (omega arith);
        offset = at 24 8 (omega arith);
        size = at 32 8 (omega arith);
      }

  -- its name, and its data
  pub section-name-read : section_names_ok f (file_of f) ≡ true → NameRead f (section_strings f) (elf_view f).strings.sections (header_of_file f i).name
  section-name-read ok =
      rw section-offset
      (name-read f (section_strings f) (elf_view f).strings.sections (layout_of f).ends.sections (section_name_offset f i) r.short (section-strings f r)
      (section-name-passes f ok i l))

  pub section-data-read : DataRead f (file_data f (header_of_file f i)) (data_range (header_of_file f i).kind (header_of_file f i).offset (header_of_file f i).size)
  section-data-read = data-read f (header_of_file f i) r.short (header-passes f r i l)
