-- Paper 1 of document 02, 'Read the object file itself': what is read of an ELF file, and the object that it states. E1 to E35 are the readings in
-- docs/DECISIONS.md. On files that 25 or 26 refuses (ElfRefusals) the definitions are total and mean nothing.
use Rattle.std.specs.Prelude.{Bool, cond, ◌&&◌, ◌||◌, not, List, [], ◌∷◌, map, ℕ, zero, suc, ◌+◌, ◌-◌, ◌/◌, ◌%◌, min, eqb, leb, length, take, drop, None, Option, Some}
use Rattle.model.specs.declared.SectionIndex.{SectionIndex}
use Rattle.model.specs.declared.SymbolIndex.{SymbolIndex}
use Rattle.model.specs.declared.Endianness.{Endianness}
use Rattle.model.specs.declared.SymbolKind.{SymbolKind}
use Rattle.model.specs.Bytes.{keep, each, find, is_some, maybe, part, u8, records}
use Rattle.model.specs.LicenceVersion.{number}
use Rattle.model.specs.Object.{Reloc, Section, Symbol, Object}
use Rattle.model.specs.Deposit.{unless_none}

-- S105: 'both byte orders': byte 5 is 1 for little and 2 for big (E2)
unfoldable pub file_order : List ℕ → Endianness
file_order f = cond (eqb (u8 f 5) 2) Endianness.Big Endianness.Little

-- S105: fields 'follow the file's byte order' (E34): the number of w bytes at a place
abbrev pub field : Endianness → List ℕ → ℕ → ℕ → ℕ
field o s p w = number o (part s p w)

-- S106: n records of w bytes, the first of them with number i
unfoldable pub numbered_records : {A : Type 0} → (ℕ → List ℕ → A) → ℕ → ℕ → ℕ → List ℕ → List A
numbered_records g w i zero s = []
numbered_records g w i (suc n) s = g i (take w s) ∷ numbered_records g w (suc i) n (drop w s)

-- ---- section headers

-- S106: the fields of a section header that are looked at (E7), `entry` being the bytes of sh_entsize that are present
pub record Header : Type 0 where
  pub index : ℕ
  pub name : ℕ
  pub kind : ℕ
  pub flags : ℕ
  pub address : ℕ
  pub offset : ℕ
  pub size : ℕ
  pub link : ℕ
  pub info : ℕ
  pub entry : List ℕ

unfoldable pub header_of : Endianness → ℕ → List ℕ → Header
header_of o i r =
    record {
      index = i;
      name = field o r 0 4;
      kind = field o r 4 4;
      flags = field o r 8 8;
      address = field o r 16 8;
      offset = field o r 24 8;
      size = field o r 32 8;
      link = field o r 40 4;
      info = field o r 44 4;
      entry = part r 56 8;
    }

-- S107: sh_type: 2 symbol table, 3 string table, 4 RELA, 8 NOBITS, 9 REL
abbrev pub is_type : ℕ → Header → Bool
is_type k h = eqb h.kind k

abbrev pub is_relocations : Header → Bool
is_relocations h = is_type 9 h || is_type 4 h

-- S108: 24 for a symbol table, 16 for REL, 24 for RELA (E5); how many entries its size has, and 'whole entries'
abbrev pub entry_size : Header → ℕ
entry_size h = cond (is_type 9 h) 16 24

abbrev pub entry_count : Header → ℕ
entry_count h = h.size / entry_size h

abbrev pub whole_entries : Header → Bool
whole_entries h = eqb (h.size % entry_size h) 0

-- S109: 'a used link names ..': the section of a number; never entry 0, which is no section (E13)
abbrev pub section_numbered : List Header → ℕ → Option Header
section_numbered hs n = find (λ h. eqb h.index n) hs

-- S109, S110: what is read of a file: e_shoff; the entries of the section header table, entry 0 among them; e_shstrndx; the sections; 'Used .. are the
-- section header table, the first symbol table and the REL and RELA tables linked to it, in section order, but for those of section 0'
pub record File : Type 0 where
  pub order : Endianness
  pub at : ℕ
  pub count : ℕ
  pub names : ℕ
  pub sections : List Header
  pub symbols : Option Header
  pub relocations : List Header

-- S110: linked to the first symbol table; where there is none, to 0 (E27)
abbrev pub in_use : Option Header → Header → Bool
in_use y h = is_relocations h && (eqb h.link (maybe y 0 (λ t. t.index)) && not (eqb h.info 0))

-- S109: the sections are the entries from 1 on (E13) whose first 48 bytes are present (E6): all of them, where the table lies inside the file
unfoldable pub file_sections : List ℕ → Endianness → ℕ → ℕ → List Header
file_sections f o at n = numbered_records (header_of o) 64 1 (min n ((length f + 16 - at) / 64) - 1) (drop (at + 64) f)

-- S109: e_shoff 0 means no section header table, e_shnum 0 no sections (E10, E11)
unfoldable pub file_of : List ℕ → File
file_of f =
    let o : Endianness = file_order f in
    let at : ℕ = field o f 40 8 in
    let n : ℕ = cond (eqb at 0) 0 (field o f 60 2) in
    let hs : List Header = file_sections f o at n in
    let y : Option Header = find (is_type 2) hs in
    record { order = o; at = at; count = n; names = field o f 62 2; sections = hs; symbols = y; relocations = keep (in_use y) hs }

-- ---- what the file states

-- S111: 'The data are sh_size bytes at sh_offset. NOBITS (8) has no data' (E16)
unfoldable pub file_data : List ℕ → Header → List ℕ
file_data f h = cond (is_type 8 h) [] (part f h.offset h.size)

-- S112: the string table of a number
unfoldable pub strings_of : List ℕ → File → ℕ → List ℕ
strings_of f p n = maybe (section_numbered p.sections n) [] (file_data f)

-- S112: 'ends before the next zero byte' (E22)
unfoldable pub up_to_zero : List ℕ → List ℕ
up_to_zero [] = []
up_to_zero (zero ∷ bs) = []
up_to_zero (suc b ∷ bs) = suc b ∷ up_to_zero bs

-- S112: 'A name begins at its offset in its string table'
abbrev pub string_at : List ℕ → ℕ → List ℕ
string_at strings at = up_to_zero (drop at strings)

-- S113: 'relocation symbol 0 is no symbol', nor is 0xFFFFFFFF (E32)
abbrev pub file_target : ℕ → Option SymbolIndex
file_target y = cond (eqb y 0) None (unless_none y (record { 0 = y }))

-- S113: relocation type 1 has size 64, 10 has 32, others 0 (E31)
abbrev pub reloc_size : ℕ → ℕ
reloc_size t = cond (eqb t 1) 64 (cond (eqb t 10) 32 0)

-- S113: r_offset, then r_info: its high 32 bits are the symbol and its low 32 the type (E31)
unfoldable pub file_reloc : Endianness → List ℕ → Reloc
file_reloc o r = let i : ℕ = field o r 8 8 in record { offset = field o r 0 8; symbol = file_target (i / 4294967296); size = reloc_size (i % 4294967296) }

-- S113: the entries of a table, in table order
unfoldable pub table_relocs : List ℕ → Endianness → Header → List Reloc
table_relocs f o t = records (file_reloc o) (entry_size t) (entry_count t) (drop t.offset f)

-- S113: 'those of its tables in section order' (E33)
unfoldable pub file_relocs : List ℕ → File → Header → List Reloc
file_relocs f p h = each (table_relocs f p.order) (keep (λ t. eqb t.info h.index) p.relocations)

-- S114: 'A text mark is a PROGBITS section with the alloc and execinstr flags': type 1, flag bits 2 and 4 (E19)
abbrev pub text_mark : Header → Bool
text_mark h = is_type 1 h && eqb (h.flags / 2 % 4) 3

-- S114: 'Each of them is a record' (E15)
unfoldable pub file_section : List ℕ → File → List ℕ → Header → Section
file_section f p names h =
    record {
      index = record { 0 = h.index };
      text = text_mark h;
      name = string_at names h.name;
      address = h.address;
      size = h.size;
      bytes = file_data f h;
      relocs = file_relocs f p h;
    }

-- S115: 'Symbol type 2 is text and 1 is data': the low four bits of st_info; anything else other (E26)
abbrev pub kind_by_type : ℕ → SymbolKind
kind_by_type t = cond (eqb t 2) SymbolKind.Text (cond (eqb t 1) SymbolKind.Data SymbolKind.Other)

-- S115: 'section 0 or a reserved one is none': from 0xFF00 on (E26)
abbrev pub symbol_section : ℕ → Option SectionIndex
symbol_section s = cond (eqb s 0 || leb 65280 s) None (Some (record { 0 = s }))

-- S115: 'a definition has one of those types and a section'
abbrev pub is_definition : ℕ → Option SectionIndex → Bool
is_definition t s = (eqb t 2 || eqb t 1) && is_some s

-- S115: st_name, st_info, st_shndx, st_value, st_size
unfoldable pub file_symbol : Endianness → List ℕ → ℕ → List ℕ → Symbol
file_symbol o strings i r =
    let t : ℕ = u8 r 4 % 16 in
    let s : Option SectionIndex = symbol_section (field o r 6 2) in
    record {
      index = record { 0 = i };
      section = s;
      name = string_at strings (field o r 0 4);
      address = field o r 8 8;
      size = field o r 16 8;
      kind = kind_by_type t;
      definition = is_definition t s;
    }

-- S115: 'its entries less entry 0, which isn't looked at' (E25)
unfoldable pub file_symbols : List ℕ → File → Header → List Symbol
file_symbols f p t = numbered_records (file_symbol p.order (strings_of f p t.link)) 24 1 (entry_count t - 1) (drop (t.offset + 24) f)

-- S116: byte order, sections and symbols
unfoldable pub stated_in : List ℕ → File → Object
stated_in f p =
    record {
      order = p.order;
      sections = map (file_section f p (strings_of f p p.names)) p.sections;
      symbols = maybe p.symbols [] (file_symbols f p);
    }

unfoldable pub elf_object_of : List ℕ → Object
elf_object_of f = stated_in f (file_of f)
