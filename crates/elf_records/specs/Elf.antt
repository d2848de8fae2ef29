-- The records of an ELF file: section headers, symbols and relocations in the file's byte order, with what its index adds.
--   t: the length of each section's name; of each symbol's; each section's first relocation; how many it has; where each relocation lies.
use Rattle.std.specs.Prelude.{cond, ◌&&◌, ◌||◌, List, ℕ, ◌+◌, ◌*◌, ◌/◌, ◌%◌, eqb, leb, length, get_or}
use Rattle.model.specs.declared.Endianness.{Endianness}
use Rattle.model.specs.declared.Extent.{Extent}
use Rattle.model.specs.declared.SectionIndex.{SectionIndex}
use Rattle.model.specs.declared.SymbolIndex.{SymbolIndex}
use Rattle.model.specs.declared.SectionRecord.{SectionRecord}
use Rattle.model.specs.declared.SymbolRecord.{SymbolRecord}
use Rattle.model.specs.declared.RelocationRecord.{RelocationRecord}
use Rattle.model.specs.Bytes.{part}
use Rattle.model.specs.Deposit.{extent}
use Rattle.model.specs.LicenceVersion.{number}
use Rattle.object_view.specs.declared.View.{View}
use Rattle.object_view.specs.NoIndex.{no_index, is_none}

-- the number of n bytes at p, 0 where the file ends before them
unfoldable pub field_at : Endianness → List ℕ → ℕ → ℕ → ℕ
field_at e d p n = cond (leb (p + n) (length d)) (number e (part d p n)) 0

unfoldable pub index_at : List ℕ → ℕ → ℕ
index_at t k = get_or t k 0

-- ---- what the numbers of a header, a symbol and a relocation stand for

-- 'A text mark is a PROGBITS section with the alloc and execinstr flags.'
unfoldable pub mark_of : ℕ → ℕ → ℕ
mark_of sort flags = cond (eqb sort 1 && eqb (flags / 2 % 4) 3) 1 0

-- NOBITS and a section of no size have no data
unfoldable pub data_range : ℕ → ℕ → ℕ → Extent
data_range sort at n = cond (eqb sort 8 || eqb n 0) (extent 0 0) (extent (at % 4294967296) (n % 4294967296))

-- 'section 0 or a reserved one is none'
unfoldable pub section_or_none : ℕ → SectionIndex
section_or_none n = record { 0 = cond (eqb n 0 || leb 65280 n) no_index n }

-- 'Symbol type 2 is text and 1 is data'
unfoldable pub kind_of_info : ℕ → ℕ
kind_of_info info = cond (eqb (info % 16) 2) 1 (cond (eqb (info % 16) 1) 2 0)

-- 'a definition has one of those types and a section'
unfoldable pub definition_of : ℕ → SectionIndex → ℕ
definition_of kind section = cond (eqb kind 0 || is_none section.0) 0 1

-- 'relocation symbol 0 is no symbol'
unfoldable pub symbol_or_none : ℕ → SymbolIndex
symbol_or_none n = record { 0 = cond (eqb n 0) no_index n }

-- 'the high 32 bits are the symbol and the low 32 the type'
abbrev pub target_of : ℕ → SymbolIndex
target_of info = symbol_or_none (info / 4294967296)

-- 'relocation type 1 has size 64, 10 has 32, others 0'
unfoldable pub width_of : ℕ → ℕ
width_of sort = cond (eqb sort 1) 64 (cond (eqb sort 10) 32 0)

-- ---- records

unfoldable pub section_index_at : ℕ → SectionIndex
section_index_at i = record { 0 = (i + 1) % 4294967296 }

module _ (d : List ℕ) (v : View) where
  abbrev pub num : ℕ → ℕ → ℕ
  num p n = field_at v.order d p n

  abbrev pub header_at : ℕ → ℕ
  header_at i = v.at.sections + 64 * i

  abbrev pub entry_at : ℕ → ℕ
  entry_at i = v.at.symbols + 24 * i

  unfoldable pub symbol_section_at : ℕ → SectionIndex
  symbol_section_at i = section_or_none (num (entry_at i + 6) 2)

  unfoldable pub symbol_address_at : ℕ → ℕ
  symbol_address_at i = num (entry_at i + 8) 8

module _ (d t : List ℕ) (v : View) where
  unfoldable pub section_name_at : ℕ → Extent
  section_name_at i = extent ((v.strings.sections + num d v (header_at d v i) 4) % 4294967296) (index_at t i)

  unfoldable pub symbol_name_at : ℕ → Extent
  symbol_name_at i = extent ((v.strings.symbols + num d v (entry_at d v i) 4) % 4294967296) (index_at t (v.sections + i))

  abbrev pub place_of : ℕ → ℕ
  place_of k = index_at t (3 * v.sections + v.symbols + k)

  unfoldable pub relocation_offset_at : ℕ → ℕ
  relocation_offset_at k = num d v (place_of k) 8

  unfoldable pub relocation_symbol_at : ℕ → SymbolIndex
  relocation_symbol_at k = target_of (num d v (place_of k + 8) 8)

  unfoldable pub elf_section : ℕ → SectionRecord
  elf_section i =
      record {
        index = section_index_at i;
        mark = mark_of (num d v (header_at d v i + 4) 4) (num d v (header_at d v i + 8) 8);
        name = section_name_at i;
        address = num d v (header_at d v i + 16) 8;
        size = num d v (header_at d v i + 32) 8;
        bytes = data_range (num d v (header_at d v i + 4) 4) (num d v (header_at d v i + 24) 8) (num d v (header_at d v i + 32) 8);
        relocations = extent (index_at t (v.sections + v.symbols + i)) (index_at t (2 * v.sections + v.symbols + i));
      }

  unfoldable pub elf_symbol : ℕ → SymbolRecord
  elf_symbol i =
      record {
        index = record { 0 = (i + 1) % 4294967296 };
        section = symbol_section_at d v i;
        name = symbol_name_at i;
        address = symbol_address_at d v i;
        size = num d v (entry_at d v i + 16) 8;
        kind = kind_of_info (get_or d (entry_at d v i + 4) 0);
        definition = definition_of (kind_of_info (get_or d (entry_at d v i + 4) 0)) (symbol_section_at d v i);
        reserved = 0;
      }

  unfoldable pub elf_relocation : ℕ → RelocationRecord
  elf_relocation k =
      record {
        offset = relocation_offset_at k;
        symbol = relocation_symbol_at k;
        size = width_of (num d v (place_of k + 8) 8 % 4294967296);
        reserved = 0;
      }
