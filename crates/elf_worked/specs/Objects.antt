-- The objects that files state, in the two byte orders.
use Rattle.std.specs.Prelude.{◌≡◌, refl, Bool, true, false, List, [], ◌∷◌, ◌++◌, map, ℕ, replicate, None, Some}
use Rattle.model.specs.declared.Endianness.{Endianness}
use Rattle.model.specs.declared.SymbolKind.{SymbolKind}
use Rattle.model.specs.Bytes.{ascii, each}
use Rattle.model.specs.Object.{Reloc, Symbol, Object}
use Rattle.elf_worked.specs.Write.{WrittenSection, data_section, table_section, no_bits, string_table, symbol_entry, rel_entry, rela_entry, elf_file, whole_symbols, whole_strings, whole_code, whole_file, byte_is, e_shoff, e_shnum, sh_name, sh_type, sh_flags, sh_offset, sh_size, Change}
use Rattle.elf_worked.specs.Run.{object_stated, in_both, twice, small_states, stated_reloc, stated_section, stated_symbol}

-- ---- whole objects

abbrev whole_object : Endianness → Object
whole_object o =
    record {
      order = o;
      sections =
          stated_section 1 true (ascii ".text") 0 16 whole_code (stated_reloc 8 (Some 3) 64 ∷ [])
          ∷ stated_section 2 true (ascii "xdp") 0 8 (183 ∷ 0 ∷ 0 ∷ 0 ∷ 3 ∷ 0 ∷ 0 ∷ 0 ∷ []) (stated_reloc 0 (Some 1) 32 ∷ [])
          ∷ stated_section 3 false (ascii ".data") 0 2 (7 ∷ 8 ∷ []) []
          ∷ stated_section 4 false (ascii ".bss") 0 3 [] []
          ∷ stated_section 5 false (ascii "license") 0 2 (88 ∷ 0 ∷ []) []
          ∷ stated_section 6 false (ascii ".symtab") 0 96 (whole_symbols o) []
          ∷ stated_section 7 false (ascii ".strtab") 0 18 whole_strings []
          ∷ stated_section 8 false (ascii ".rel") 0 16 (rel_entry o 8 3 1) []
          ∷ stated_section 9 false (ascii ".rela") 0 24 (rela_entry o 0 1 10) []
          ∷ stated_section 10 false (ascii ".names") 0 64
          (string_table (".text" ∷ "xdp" ∷ ".data" ∷ ".bss" ∷ "license" ∷ ".symtab" ∷ ".strtab" ∷ ".rel" ∷ ".rela" ∷ ".names" ∷ [])) []
          ∷ [];
      symbols =
          stated_symbol 1 (Some 1) (ascii "helper") 0 16 SymbolKind.Text true
          ∷ stated_symbol 2 (Some 2) (ascii "pass") 0 8 SymbolKind.Text true
          ∷ stated_symbol 3 (Some 3) (ascii "rate") 0 2 SymbolKind.Data true
          ∷ [];
    }

whole-object : in_both (λ o. object_stated (whole_file o)) ≡ in_both whole_object
unfolding object_stated
whole-object = refl

abbrev no_sections : Endianness → Object
no_sections o = record { order = o; sections = []; symbols = [] }

no_table : small_states (e_shoff 0 ∷ []) ≡ in_both no_sections
unfolding object_stated
no_table = refl

no_header : small_states (e_shnum 0 ∷ []) ≡ in_both no_sections
unfolding object_stated
no_header = refl

-- ---- symbols (E24 to E26)

-- of a symbol table with these entries behind entry 0, which isn't looked at
abbrev symbols_stated : List ℕ → (Endianness → List ℕ) → List (List Symbol)
symbols_stated ns es =
    in_both (λ o. (object_stated (elf_file o (table_section ".symtab" 2 2 0 24 (replicate 24 255 ++ es o) ∷ data_section ".strtab" 3 0 ns ∷ []))).symbols)

abbrev nameless : ℕ → ℕ → ℕ → Endianness → List ℕ
nameless t s z o = symbol_entry o 0 t s 0 z

-- section 0 or from 0xFF00 on is none; a number that no section has stays
symbol-sections : symbols_stated (0 ∷ []) (λ o. each (λ s. nameless 2 s 0 o) (0 ∷ 1 ∷ 256 ∷ 65279 ∷ 65280 ∷ 65521 ∷ 65535 ∷ []))
    ≡ twice (stated_symbol 1 None [] 0 0 SymbolKind.Text false
    ∷ stated_symbol 2 (Some 1) [] 0 0 SymbolKind.Text true
    ∷ stated_symbol 3 (Some 256) [] 0 0 SymbolKind.Text true
    ∷ stated_symbol 4 (Some 65279) [] 0 0 SymbolKind.Text true
    ∷ stated_symbol 5 None [] 0 0 SymbolKind.Text false
    ∷ stated_symbol 6 None [] 0 0 SymbolKind.Text false
    ∷ stated_symbol 7 None [] 0 0 SymbolKind.Text false
    ∷ [])
unfolding object_stated
symbol-sections = refl

-- the low four bits of st_info: 2 is text, 1 data, every other is other and no definition
symbol-types : symbols_stated (0 ∷ []) (λ o. each (λ t. nameless t 3 0 o) (0 ∷ 1 ∷ 2 ∷ 3 ∷ 10 ∷ 17 ∷ 34 ∷ 255 ∷ []))
    ≡ twice (stated_symbol 1 (Some 3) [] 0 0 SymbolKind.Other false
    ∷ stated_symbol 2 (Some 3) [] 0 0 SymbolKind.Data true
    ∷ stated_symbol 3 (Some 3) [] 0 0 SymbolKind.Text true
    ∷ stated_symbol 4 (Some 3) [] 0 0 SymbolKind.Other false
    ∷ stated_symbol 5 (Some 3) [] 0 0 SymbolKind.Other false
    ∷ stated_symbol 6 (Some 3) [] 0 0 SymbolKind.Data true
    ∷ stated_symbol 7 (Some 3) [] 0 0 SymbolKind.Text true
    ∷ stated_symbol 8 (Some 3) [] 0 0 SymbolKind.Other false
    ∷ [])
unfolding object_stated
symbol-types = refl

undefined-data : symbols_stated (0 ∷ []) (λ o. nameless 17 0 0 o) ≡ twice (stated_symbol 1 None [] 0 0 SymbolKind.Data false ∷ [])
unfolding object_stated
undefined-data = refl

-- names may share bytes (E23)
symbol-names-share : symbols_stated (string_table ("abcd" ∷ [])) (λ o. each (λ n. symbol_entry o n 0 0 0 0) (1 ∷ 3 ∷ 1 ∷ 5 ∷ []))
    ≡ twice (stated_symbol 1 None (ascii "abcd") 0 0 SymbolKind.Other false
    ∷ stated_symbol 2 None (ascii "cd") 0 0 SymbolKind.Other false
    ∷ stated_symbol 3 None (ascii "abcd") 0 0 SymbolKind.Other false
    ∷ stated_symbol 4 None [] 0 0 SymbolKind.Other false
    ∷ [])
unfolding object_stated
symbol-names-share = refl

symbol-numbers : symbols_stated (0 ∷ []) (λ o. symbol_entry o 0 0 0 9223372036854775813 1099511627783)
    ≡ twice (stated_symbol 1 None [] 9223372036854775813 1099511627783 SymbolKind.Other false ∷ [])
unfolding object_stated
symbol-numbers = refl

-- st_other is free (E7)
visibility-free : map (λ x. x.symbols) (small_states (byte_is 97 255 ∷ [])) ≡ twice (stated_symbol 1 (Some 1) (ascii "a") 0 4 SymbolKind.Data true ∷ [])
unfolding object_stated
visibility-free = refl

no-symbols : map (λ x. x.symbols) (small_states (sh_size 2 24 ∷ [])) ≡ twice []
unfolding object_stated
no-symbols = refl

-- type 11 is a plain section
dynamic-symbols : map (λ x. x.symbols) (small_states (sh_type 2 11 ∷ [])) ≡ twice []
unfolding object_stated
dynamic-symbols = refl

-- ---- sections (E13, E15, E16, E19)

-- NOBITS has no data, its size stays; type 0 is a section too
nobits-and-type-0 : in_both (λ o. (object_stated (elf_file o (no_bits "x" 9 ∷ data_section "" 0 6 (5 ∷ []) ∷ []))).sections)
    ≡ twice (stated_section 1 false (ascii "x") 0 9 [] []
    ∷ stated_section 2 false [] 0 1 (5 ∷ []) []
    ∷ stated_section 3 false (ascii ".names") 0 11 (0 ∷ 120 ∷ 0 ∷ 0 ∷ 46 ∷ 110 ∷ 97 ∷ 109 ∷ 101 ∷ 115 ∷ 0 ∷ []) []
    ∷ [])
unfolding object_stated
nobits-and-type-0 = refl

-- the text mark: type 1 and both of the flag bits 2 and 4
abbrev marks : List Change → List (List Bool)
marks cs = map (λ x. map (λ s. s.text) x.sections) (small_states cs)

text-marks : marks (sh_flags 1 6 ∷ sh_type 2 1 ∷ sh_flags 2 7 ∷ sh_type 3 1 ∷ sh_flags 3 9223372036854775814 ∷ sh_type 4 1 ∷ sh_flags 4 2 ∷ sh_type 5 1 ∷ sh_flags 5 4 ∷ [])
    ≡ twice (true ∷ true ∷ true ∷ false ∷ false ∷ false ∷ [])
unfolding object_stated
text-marks = refl

no-text-marks : marks (sh_flags 1 5 ∷ sh_type 2 0 ∷ sh_flags 2 6 ∷ sh_type 3 8 ∷ sh_flags 3 6 ∷ sh_type 4 257 ∷ sh_flags 4 6 ∷ sh_type 5 1 ∷ sh_flags 5 1536 ∷ sh_flags 6 6 ∷ [])
    ≡ twice (false ∷ false ∷ false ∷ false ∷ false ∷ false ∷ [])
unfolding object_stated
no-text-marks = refl

-- sections may overlap each other and the header (E17)
overlapping : map (λ x. map (λ s. s.bytes) x.sections) (small_states (sh_offset 1 0 ∷ sh_size 1 5 ∷ sh_type 2 1 ∷ sh_offset 2 1 ∷ sh_size 2 3 ∷ sh_offset 3 159 ∷ sh_offset 4 3 ∷ sh_size 4 0 ∷ sh_offset 5 116 ∷ sh_size 5 3 ∷ sh_offset 6 116 ∷ sh_size 6 3 ∷ []))
    ≡ twice ((127 ∷ 69 ∷ 76 ∷ 70 ∷ 2 ∷ []) ∷ (69 ∷ 76 ∷ 70 ∷ []) ∷ (0 ∷ 120 ∷ 0 ∷ []) ∷ [] ∷ (0 ∷ 97 ∷ 0 ∷ []) ∷ (0 ∷ 97 ∷ 0 ∷ []) ∷ [])
unfolding object_stated
overlapping = refl

section-names-share : map (λ x. map (λ s. s.name) x.sections) (small_states (sh_name 1 5 ∷ sh_name 4 4 ∷ sh_name 5 36 ∷ []))
    ≡ twice (ascii "ymtab" ∷ ascii ".symtab" ∷ ascii ".strtab" ∷ ascii "symtab" ∷ [] ∷ ascii ".names" ∷ [])
unfolding object_stated
section-names-share = refl

section-address : in_both (λ o. map (λ s. s.address) (object_stated (elf_file o (record { name = []; kind = 1; flags = 0; address = 9223372036854775809; size = 0; link = 0; info = 0; entry = 0; bytes = [] } ∷ []))).sections)
    ≡ twice (9223372036854775809 ∷ 0 ∷ [])
unfolding object_stated
section-address = refl

-- ---- relocations (E27 to E33)

-- of the sections of a file: a plain one, a symbol table without symbols and its strings, and these tables
abbrev relocs_stated : (Endianness → List WrittenSection) → List (List (List Reloc))
relocs_stated ts =
    in_both (λ o. map (λ s. s.relocs) (object_stated (elf_file o (data_section "x" 1 0 [] ∷ table_section ".symtab" 2 3 0 24 (replicate 24 0) ∷ data_section ".strtab" 3 0 [] ∷ ts o))).sections)

-- in section order, each in table order
several-tables : relocs_stated (λ o. table_section ".rel" 9 2 1 16 (rel_entry o 8 1 1 ++ rel_entry o 0 2 1)
    ∷ table_section ".rela" 4 2 2 24 (rela_entry o 5 5 1)
    ∷ table_section ".rela" 4 2 1 24 (rela_entry o 8 3 10)
    ∷ table_section ".rel" 9 2 1 16 (rel_entry o 1 4 1)
    ∷ [])
    ≡ twice ((stated_reloc 8 (Some 1) 64 ∷ stated_reloc 0 (Some 2) 64 ∷ stated_reloc 8 (Some 3) 32 ∷ stated_reloc 1 (Some 4) 64 ∷ [])
    ∷ (stated_reloc 5 (Some 5) 64 ∷ []) ∷ [] ∷ [] ∷ [] ∷ [] ∷ [] ∷ [] ∷ [])
unfolding object_stated
several-tables = refl

-- 1 has size 64, 10 has 32, every other 0
relocation-types : relocs_stated (λ o. table_section ".rel" 9 2 1 16 (each (λ t. rel_entry o t 1 t) (0 ∷ 1 ∷ 2 ∷ 9 ∷ 10 ∷ 11 ∷ 257 ∷ 266 ∷ 16777216 ∷ 4294967295 ∷ [])) ∷ [])
    ≡ twice ((stated_reloc 0 (Some 1) 0
    ∷ stated_reloc 1 (Some 1) 64
    ∷ stated_reloc 2 (Some 1) 0
    ∷ stated_reloc 9 (Some 1) 0
    ∷ stated_reloc 10 (Some 1) 32
    ∷ stated_reloc 11 (Some 1) 0
    ∷ stated_reloc 257 (Some 1) 0
    ∷ stated_reloc 266 (Some 1) 0
    ∷ stated_reloc 16777216 (Some 1) 0
    ∷ stated_reloc 4294967295 (Some 1) 0
    ∷ [])
    ∷ [] ∷ [] ∷ [] ∷ [] ∷ [])
unfolding object_stated
relocation-types = refl

-- 0 and 0xFFFFFFFF are none; no other need exist
relocation-symbols : relocs_stated (λ o. table_section ".rela" 4 2 1 24 (each (λ y. rela_entry o y y 1) (0 ∷ 1 ∷ 2147483648 ∷ 4294967294 ∷ 4294967295 ∷ [])) ∷ [])
    ≡ twice ((stated_reloc 0 None 64
    ∷ stated_reloc 1 (Some 1) 64
    ∷ stated_reloc 2147483648 (Some 2147483648) 64
    ∷ stated_reloc 4294967294 (Some 4294967294) 64
    ∷ stated_reloc 4294967295 None 64
    ∷ [])
    ∷ [] ∷ [] ∷ [] ∷ [] ∷ [])
unfolding object_stated
relocation-symbols = refl

relocation-offset : relocs_stated (λ o. table_section ".rela" 4 2 1 24 (rela_entry o 9223372036854775817 1 1) ∷ [])
    ≡ twice ((stated_reloc 9223372036854775817 (Some 1) 64 ∷ []) ∷ [] ∷ [] ∷ [] ∷ [] ∷ [])
unfolding object_stated
relocation-offset = refl

-- of section 0, linked elsewhere, another type
not-in-use : relocs_stated (λ o. table_section ".rel" 9 2 0 16 (rel_entry o 8 1 1) ∷ table_section ".rel" 9 3 1 16 (rel_entry o 8 1 1) ∷ table_section ".r" 5 2 1 16 (rel_entry o 8 1 1) ∷ [])
    ≡ twice ([] ∷ [] ∷ [] ∷ [] ∷ [] ∷ [] ∷ [] ∷ [])
unfolding object_stated
not-in-use = refl

-- linked to a second symbol table
of-second-symbols : relocs_stated (λ o. table_section ".symtab" 2 3 0 24 [] ∷ table_section ".rel" 9 4 1 16 (rel_entry o 8 1 1) ∷ [])
    ≡ twice ([] ∷ [] ∷ [] ∷ [] ∷ [] ∷ [] ∷ [])
unfolding object_stated
of-second-symbols = refl

-- linked to 0, where there is no symbol table
linked-to-0 : in_both (λ o. map (λ s. s.relocs) (object_stated (elf_file o (data_section "x" 1 0 [] ∷ table_section ".rel" 9 0 1 16 (rel_entry o 8 1 1) ∷ []))).sections)
    ≡ twice ((stated_reloc 8 (Some 1) 64 ∷ []) ∷ [] ∷ [] ∷ [])
unfolding object_stated
linked-to-0 = refl

-- of the symbol table, its strings and NOBITS
relocated-tables : relocs_stated (λ o. no_bits "b" 2
    ∷ table_section ".rel" 9 2 4 16 (rel_entry o 8 1 1)
    ∷ table_section ".rel" 9 2 2 16 (rel_entry o 9 1 1)
    ∷ table_section ".rela" 4 2 3 24 (rela_entry o 10 1 1)
    ∷ [])
    ≡ twice ([] ∷ (stated_reloc 9 (Some 1) 64 ∷ []) ∷ (stated_reloc 10 (Some 1) 64 ∷ []) ∷ (stated_reloc 8 (Some 1) 64 ∷ []) ∷ [] ∷ [] ∷ [] ∷ [] ∷ [])
unfolding object_stated
relocated-tables = refl
