-- Files written out from their parts, for the worked cases: the header, the sections' data one after the other, the section header table. The names of the
-- sections are the last section, `.names`. Then two files that rows take, and changes of a file's fields.
use Rattle.std.specs.Prelude.{List, [], ◌∷◌, ◌++◌, ℕ, ◌+◌, ◌*◌, length, replicate}
use Prim.Native.String.{String}
use Rattle.std.proofs.lemmas.List.Edits.{sets}
use Rattle.model.specs.declared.Endianness.{Endianness}
use Rattle.model.specs.Bytes.{ascii, each}
use Rattle.model.specs.ElfRefusals.{field_bytes}

-- the byte orders, by the gABI's names
abbrev pub lsb : Endianness
lsb = Endianness.Little

abbrev pub msb : Endianness
msb = Endianness.Big

-- ---- sections

pub record WrittenSection : Type 0 where
  pub name : List ℕ
  pub kind : ℕ
  pub flags : ℕ
  pub address : ℕ
  pub size : ℕ
  pub link : ℕ
  pub info : ℕ
  pub entry : ℕ
  pub bytes : List ℕ

-- name, type, flags, data
abbrev pub data_section : String → ℕ → ℕ → List ℕ → WrittenSection
data_section n k g d = record { name = ascii n; kind = k; flags = g; address = 0; size = length d; link = 0; info = 0; entry = 0; bytes = d }

-- name, type, link, info, entry size, data
abbrev pub table_section : String → ℕ → ℕ → ℕ → ℕ → List ℕ → WrittenSection
table_section n k l i e d = record { name = ascii n; kind = k; flags = 0; address = 0; size = length d; link = l; info = i; entry = e; bytes = d }

-- name, size: a NOBITS section
abbrev pub no_bits : String → ℕ → WrittenSection
no_bits n z = record { name = ascii n; kind = 8; flags = 3; address = 0; size = z; link = 0; info = 0; entry = 0; bytes = [] }

-- names, each with its zero, behind a zero
abbrev pub string_table : List String → List ℕ
string_table ns = 0 ∷ each (λ n. ascii n ++ (0 ∷ [])) ns

-- an entry of a symbol table: name, st_info, section, value, size
abbrev pub symbol_entry : Endianness → ℕ → ℕ → ℕ → ℕ → ℕ → List ℕ
symbol_entry o n i s v z = field_bytes o 4 n ++ (i ∷ 0 ∷ (field_bytes o 2 s ++ (field_bytes o 8 v ++ field_bytes o 8 z)))

-- of a REL, and of a RELA table: offset, symbol, type
abbrev pub rel_entry : Endianness → ℕ → ℕ → ℕ → List ℕ
rel_entry o p y t = field_bytes o 8 p ++ field_bytes o 8 (y * 4294967296 + t)

abbrev pub rela_entry : Endianness → ℕ → ℕ → ℕ → List ℕ
rela_entry o p y t = rel_entry o p y t ++ replicate 8 255

-- ---- files

-- each header, with the places of its name and its data
unfoldable pub written_headers : Endianness → ℕ → ℕ → List WrittenSection → List ℕ
written_headers o n d [] = []
written_headers o n d (s ∷ ss) =
    field_bytes o 4 n
    ++ (field_bytes o 4 s.kind
    ++ (field_bytes o 8 s.flags
    ++ (field_bytes o 8 s.address
    ++ (field_bytes o 8 d
    ++ (field_bytes o 8 s.size
    ++ (field_bytes o 4 s.link
    ++ (field_bytes o 4 s.info
    ++ (field_bytes o 8 1
    ++ (field_bytes o 8 s.entry
    ++ written_headers o (n + length s.name + 1) (d + length s.bytes) ss)))))))))

abbrev pub with_names : List WrittenSection → List WrittenSection
with_names ss = ss ++ (data_section ".names" 3 0 (0 ∷ (each (λ s. s.name ++ (0 ∷ [])) ss ++ (ascii ".names" ++ (0 ∷ [])))) ∷ [])

abbrev order_byte : Endianness → ℕ
order_byte Endianness.Little = 1
order_byte Endianness.Big = 2

abbrev pub file_from : Endianness → ℕ → List WrittenSection → List ℕ
file_from o n ss =
    let d : List ℕ = each (λ s. s.bytes) ss in
    127
    ∷ 69
    ∷ 76
    ∷ 70
    ∷ 2
    ∷ order_byte o
    ∷ 1
    ∷ (replicate 9 0
    ++ (field_bytes o 2 1
    ++ (field_bytes o 2 247
    ++ (replicate 20 0
    ++ (field_bytes o 8 (64 + length d)
    ++ (replicate 10 0
    ++ (field_bytes o 2 64
    ++ (field_bytes o 2 (n + 2)
    ++ (field_bytes o 2 (n + 1)
    ++ (d ++ (replicate 64 0 ++ written_headers o 1 64 ss)))))))))))

-- byte order, sections from 1 on
unfoldable pub elf_file : Endianness → List WrittenSection → List ℕ
elf_file o ss = file_from o (length ss) (with_names ss)

-- ---- two files

-- 644 bytes. Section 1, `x`, stands at 64; the entries of the symbol table at 68 and 92; `.strtab`, which is 0 97 0, at 116; the entry of `.rel` at 119; the names
-- of the sections at 159, 37 bytes of them; header i at 196 + 64 × i. Sections 2 to 6 are `.symtab`, `.strtab`, `.rel`, `.rela`, `.names`.
abbrev pub small_file : Endianness → List ℕ
small_file o =
    elf_file o
    (data_section "x" 1 0 (1 ∷ 2 ∷ 3 ∷ 4 ∷ [])
    ∷ table_section ".symtab" 2 3 0 24 (replicate 24 0 ++ symbol_entry o 1 1 1 0 4)
    ∷ table_section ".strtab" 3 0 0 0 (string_table ("a" ∷ []))
    ∷ table_section ".rel" 9 2 1 16 (rel_entry o 0 1 1)
    ∷ table_section ".rela" 4 2 1 24 (rela_entry o 1 1 10)
    ∷ [])

abbrev pub whole_symbols : Endianness → List ℕ
whole_symbols o = replicate 24 0 ++ (symbol_entry o 1 18 1 0 16 ++ (symbol_entry o 8 18 2 0 8 ++ symbol_entry o 13 17 3 0 2))

abbrev pub whole_strings : List ℕ
whole_strings = string_table ("helper" ∷ "pass" ∷ "rate" ∷ [])

abbrev pub whole_code : List ℕ
whole_code = 183 ∷ 0 ∷ 0 ∷ 0 ∷ 1 ∷ 0 ∷ 0 ∷ 0 ∷ 183 ∷ 0 ∷ 0 ∷ 0 ∷ 2 ∷ 0 ∷ 0 ∷ 0 ∷ []

-- a text of one function, a program, maps, a licence, and relocations of both kinds
abbrev pub whole_file : Endianness → List ℕ
whole_file o =
    elf_file o
    (data_section ".text" 1 6 whole_code
    ∷ data_section "xdp" 1 7 (183 ∷ 0 ∷ 0 ∷ 0 ∷ 3 ∷ 0 ∷ 0 ∷ 0 ∷ [])
    ∷ data_section ".data" 1 3 (7 ∷ 8 ∷ [])
    ∷ no_bits ".bss" 3
    ∷ data_section "license" 1 3 (88 ∷ 0 ∷ [])
    ∷ table_section ".symtab" 2 7 0 24 (whole_symbols o)
    ∷ table_section ".strtab" 3 0 0 0 whole_strings
    ∷ table_section ".rel" 9 6 1 16 (rel_entry o 8 3 1)
    ∷ table_section ".rela" 4 6 2 24 (rela_entry o 0 1 10)
    ∷ [])

-- ---- changes

-- the field of so many bytes at a place becomes that number
pub record Change : Type 0 where
  pub at : ℕ
  pub width : ℕ
  pub number : ℕ

unfoldable pub changed : Endianness → List Change → List ℕ → List ℕ
changed o [] f = f
changed o (c ∷ cs) f = sets (changed o cs f) c.at (field_bytes o c.width c.number)

abbrev pub byte_is : ℕ → ℕ → Change
byte_is p x = record { at = p; width = 1; number = x }

-- fields of the header, by the gABI's names
abbrev pub e_type : ℕ → Change
e_type x = record { at = 16; width = 2; number = x }

abbrev pub e_machine : ℕ → Change
e_machine x = record { at = 18; width = 2; number = x }

abbrev pub e_shoff : ℕ → Change
e_shoff x = record { at = 40; width = 8; number = x }

abbrev pub e_shentsize : ℕ → Change
e_shentsize x = record { at = 58; width = 2; number = x }

abbrev pub e_shnum : ℕ → Change
e_shnum x = record { at = 60; width = 2; number = x }

abbrev pub e_shstrndx : ℕ → Change
e_shstrndx x = record { at = 62; width = 2; number = x }

-- of header i of the small file
abbrev pub sh_name : ℕ → ℕ → Change
sh_name i x = record { at = 196 + 64 * i; width = 4; number = x }

abbrev pub sh_type : ℕ → ℕ → Change
sh_type i x = record { at = 200 + 64 * i; width = 4; number = x }

abbrev pub sh_flags : ℕ → ℕ → Change
sh_flags i x = record { at = 204 + 64 * i; width = 8; number = x }

abbrev pub sh_offset : ℕ → ℕ → Change
sh_offset i x = record { at = 220 + 64 * i; width = 8; number = x }

abbrev pub sh_size : ℕ → ℕ → Change
sh_size i x = record { at = 228 + 64 * i; width = 8; number = x }

abbrev pub sh_link : ℕ → ℕ → Change
sh_link i x = record { at = 236 + 64 * i; width = 4; number = x }

abbrev pub sh_info : ℕ → ℕ → Change
sh_info i x = record { at = 240 + 64 * i; width = 4; number = x }

abbrev pub sh_addralign : ℕ → ℕ → Change
sh_addralign i x = record { at = 244 + 64 * i; width = 8; number = x }

abbrev pub sh_entsize : ℕ → ℕ → Change
sh_entsize i x = record { at = 252 + 64 * i; width = 8; number = x }

-- of the entry i of its symbol table
abbrev pub st_name : ℕ → ℕ → Change
st_name i x = record { at = 68 + 24 * i; width = 4; number = x }
