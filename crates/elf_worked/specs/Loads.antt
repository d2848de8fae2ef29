-- Whole files: 3 to 24, catalogues, what is lent and what is listed, in the two byte orders.
use Rattle.std.specs.Prelude.{◌≡◌, refl, true, false, List, [], ◌∷◌, ◌++◌, map, ℕ, pos, take, replicate, Err, None, Some}
use Rattle.model.specs.declared.Endianness.{Endianness}
use Rattle.model.specs.declared.EbpfSectionKind.{EbpfSectionKind as Kind}
use Rattle.model.specs.declared.XdpAttachType.{XdpAttachType}
use Rattle.model.specs.declared.ProgramSection.{ProgramSection}
use Rattle.model.specs.Bytes.{ascii}
use Rattle.model.specs.Catalogue.{Catalogue}
use Rattle.model.specs.Patching.{Verdict}
use Rattle.worked.specs.Run.{no, lines, catalogue_in, insn, entry, program, function, words, data_map_of, legacy_map_of, relocation, room, row_of_numbers, patch}
use Rattle.elf_worked.specs.Write.{WrittenSection, data_section, table_section, no_bits, string_table, symbol_entry, rel_entry, elf_file, small_file, whole_file, changed, e_machine, e_shoff, e_shstrndx}
use Rattle.elf_worked.specs.Run.{loaded_file, called_file, listed_file, in_both, twice}

-- ---- 25 and 26 name 0 0 0, and come before 3 (E8)

names-nothing-25 : in_both (λ o. loaded_file (changed o (e_machine 0 ∷ []) (small_file o)) [] false) ≡ twice (no 25 0 0 0)
unfolding loaded_file
names-nothing-25 = refl

names-nothing-26 : in_both (λ o. loaded_file (changed o (e_shstrndx 0 ∷ []) (small_file o)) [] false) ≡ twice (no 26 0 0 0)
unfolding loaded_file
names-nothing-26 = refl

-- a NOBITS section `.BTF` of that size
abbrev btf_file : ℕ → Endianness → List ℕ
btf_file z o = elf_file o (no_bits ".BTF" z ∷ [])

machine-and-btf : in_both (λ o. loaded_file (changed o (e_machine 0 ∷ []) (btf_file 0 o)) [] false) ≡ twice (no 25 0 0 0)
unfolding loaded_file
machine-and-btf = refl

size-and-btf : in_both (λ o. loaded_file (btf_file 16777217 o) [] false) ≡ twice (no 26 0 0 0)
unfolding loaded_file
size-and-btf = refl

size-most-and-btf : in_both (λ o. loaded_file (btf_file 16777216 o) [] false) ≡ twice (no 3 0 0 0)
unfolding loaded_file
size-most-and-btf = refl

-- ---- from 3 on everything is document 01's on these records (E35)

-- a load of a file of these sections
abbrev sections_say : (Endianness → List WrittenSection) → List Verdict
sections_say ss = in_both (λ o. loaded_file (elf_file o (ss o)) [] false)

btf : sections_say (λ o. data_section ".BTF" 1 0 [] ∷ []) ≡ twice (no 3 0 0 0)
unfolding loaded_file
btf = refl

btf-ext : map (λ v. (catalogue_in v).sections) (sections_say (λ o. data_section ".BTF.ext" 1 0 [] ∷ [])) ≡ twice (entry ".names" 2 17 ∷ [])
unfolding loaded_file
btf-ext = refl

-- a relocation of `.text` whose symbol is y
abbrev relocated_says : ℕ → List Verdict
relocated_says y =
    sections_say (λ o. data_section ".text" 1 6 [] ∷ table_section ".symtab" 2 3 0 24 [] ∷ data_section ".strtab" 3 0 [] ∷ table_section ".rel" 9 2 1 16 (rel_entry o 8 y 1) ∷ [])

-- 'so 4 when its section is in hand' (E32)
relocation-symbol-0 : relocated_says 0 ≡ twice (no 4 1 0 0)
unfolding loaded_file
relocation-symbol-0 = refl

relocation-symbol-4294967295 : relocated_says 4294967295 ≡ twice (no 4 1 0 0)
unfolding loaded_file
relocation-symbol-4294967295 = refl

relocation-symbol-4294967294 : map (λ v. (catalogue_in v).relocations) (relocated_says 4294967294) ≡ twice (relocation 1 8 64 4294967294 ∷ [])
unfolding loaded_file
relocation-symbol-4294967294 = refl

version-of-3 : sections_say (λ o. data_section "version" 1 0 (97 ∷ 98 ∷ 99 ∷ []) ∷ []) ≡ twice (no 7 1 0 0)
unfolding loaded_file
version-of-3 = refl

program-unknown : sections_say (λ o. data_section "xdp/" 1 6 (183 ∷ replicate 7 0) ∷ []) ≡ twice (no 8 1 0 0)
unfolding loaded_file
program-unknown = refl

program-without-symbol : sections_say (λ o. data_section "xdp" 1 6 (183 ∷ replicate 7 0) ∷ []) ≡ twice (no 9 1 0 0)
unfolding loaded_file
program-without-symbol = refl

text-without-symbol : sections_say (λ o. data_section ".text" 1 0 (183 ∷ replicate 7 0) ∷ []) ≡ twice (no 12 1 0 0)
unfolding loaded_file
text-without-symbol = refl

-- its kind goes by name and text mark, not by its ELF type (E15)
strings-named-maps : sections_say (λ o. data_section "maps" 3 0 (0 ∷ []) ∷ []) ≡ twice (no 9 1 0 0)
unfolding loaded_file
strings-named-maps = refl

strings-named-rodata : map (λ v. (catalogue_in v).maps) (sections_say (λ o. data_section ".rodata.x" 3 0 (0 ∷ 5 ∷ []) ∷ []))
    ≡ twice (data_map_of ".rodata.x" 1 Kind.Rodata (words 2 4 2 1 128 0 0) (0 ∷ 5 ∷ []) ∷ [])
unfolding loaded_file
strings-named-rodata = refl

-- ---- catalogues

abbrev whole_catalogue : Endianness → Catalogue
whole_catalogue o =
    record {
      order = o;
      licence = 88 ∷ [];
      version = None;
      sections =
          entry ".bss" 4 3
          ∷ entry ".data" 3 2
          ∷ entry ".names" 10 64
          ∷ entry ".rel" 8 16
          ∷ entry ".rela" 9 24
          ∷ entry ".strtab" 7 18
          ∷ entry ".symtab" 6 96
          ∷ entry ".text" 1 16
          ∷ entry "license" 5 2
          ∷ entry "xdp" 2 8
          ∷ [];
      programs = program "pass" (ProgramSection.Xdp false XdpAttachType.Interface) 2 0 ∷ [];
      functions =
          function 1 0 0 "helper" (insn 183 0 (pos 0) (pos 1) ∷ insn 183 0 (pos 0) (pos 2) ∷ [])
          ∷ function 2 0 0 "pass" (insn 183 0 (pos 0) (pos 3) ∷ [])
          ∷ [];
      maps =
          data_map_of ".bss" 4 Kind.Bss (words 2 4 3 1 0 0 0) (0 ∷ 0 ∷ 0 ∷ [])
          ∷ data_map_of ".data" 3 Kind.Data (words 2 4 2 1 0 0 0) (7 ∷ 8 ∷ [])
          ∷ [];
      relocations = relocation 1 8 64 3 ∷ relocation 2 0 32 1 ∷ [];
    }

whole-catalogue : in_both (λ o. loaded_file (whole_file o) [] false) ≡ in_both (λ o. Verdict.accepted (whole_catalogue o))
unfolding loaded_file
whole-catalogue = refl

-- licence GPL, version any, no rows (E10)
abbrev empty_catalogue : Endianness → Catalogue
empty_catalogue o =
    record { order = o; licence = ascii "GPL"; version = None; sections = []; programs = []; functions = []; maps = []; relocations = [] }

no-sections : in_both (λ o. loaded_file (take 64 (changed o (e_shoff 0 ∷ []) (whole_file o))) [] false) ≡ in_both (λ o. Verdict.accepted (empty_catalogue o))
unfolding loaded_file
no-sections = refl

-- the version follows the file's byte order, map words don't (E34)
abbrev version_and_maps : Endianness → List WrittenSection
version_and_maps o =
    data_section "version" 1 0 (1 ∷ 2 ∷ 3 ∷ 4 ∷ [])
    ∷ data_section "maps" 1 0 (1 ∷ 0 ∷ 0 ∷ 0 ∷ 4 ∷ 0 ∷ 0 ∷ 0 ∷ 8 ∷ 0 ∷ 0 ∷ 0 ∷ 2 ∷ 0 ∷ 0 ∷ 0 ∷ 3 ∷ 0 ∷ 0 ∷ 0 ∷ [])
    ∷ table_section ".symtab" 2 4 0 24 (replicate 24 0 ++ symbol_entry o 1 1 2 0 20)
    ∷ data_section ".strtab" 3 0 (string_table ("m" ∷ []))
    ∷ []

version-by-order : map (λ v. (catalogue_in v).version) (sections_say version_and_maps) ≡ Some 67305985 ∷ Some 16909060 ∷ []
unfolding loaded_file
version-by-order = refl

words-as-they-lie : map (λ v. (catalogue_in v).maps) (sections_say version_and_maps) ≡ twice (legacy_map_of "m" 2 1 (words 1 4 8 2 3 0 0) ∷ [])
unfolding loaded_file
words-as-they-lie = refl

-- of one offset the last stands (E33)
later-table-stands : map (λ v. (catalogue_in v).relocations) (sections_say (λ o. data_section ".text" 1 6 []
    ∷ table_section ".symtab" 2 3 0 24 []
    ∷ data_section ".strtab" 3 0 []
    ∷ table_section ".rel" 9 2 1 16 (rel_entry o 8 1 1 ++ rel_entry o 0 2 1)
    ∷ table_section ".rel" 9 2 1 16 (rel_entry o 8 3 10)
    ∷ []))
    ≡ twice (relocation 1 0 64 2 ∷ relocation 1 8 32 3 ∷ [])
unfolding loaded_file
later-table-stands = refl

-- patches and rewriting as of a deposit
patched-file : map (λ v. (catalogue_in v).maps) (in_both (λ o. loaded_file (whole_file o) (patch "rate" (1 ∷ 2 ∷ []) 1 ∷ []) false))
    ≡ twice (data_map_of ".bss" 4 Kind.Bss (words 2 4 3 1 0 0 0) (0 ∷ 0 ∷ 0 ∷ []) ∷ data_map_of ".data" 3 Kind.Data (words 2 4 2 1 0 0 0) (1 ∷ 2 ∷ []) ∷ [])
unfolding loaded_file
patched-file = refl

patch-unknown : in_both (λ o. loaded_file (whole_file o) (patch "none" [] 1 ∷ []) false) ≡ twice (no 20 0 0 1)
unfolding loaded_file
patch-unknown = refl

rewritten-file : map (λ v. (catalogue_in v).functions) (in_both (λ o. loaded_file (elf_file o (data_section ".text" 1 6 (133 ∷ 0 ∷ 0 ∷ 0 ∷ 112 ∷ 0 ∷ 0 ∷ 0 ∷ [])
    ∷ table_section ".symtab" 2 3 0 24 (replicate 24 0 ++ symbol_entry o 1 2 1 0 8)
    ∷ data_section ".strtab" 3 0 (string_table ("f" ∷ []))
    ∷ [])) [] true))
    ≡ twice (function 1 0 0 "f" (insn 133 0 (pos 0) (pos 4) ∷ []) ∷ [])
unfolding loaded_file
rewritten-file = refl

-- ---- the whole call

abbrev one_section : Endianness → List ℕ
one_section o = elf_file o (data_section "d" 1 0 [] ∷ [])

lent-names : in_both (λ o. (called_file (one_section o) [] [] false (room 8 0 0 0 0 10)).lent.bytes) ≡ twice (ascii "GPL.namesd")
unfolding called_file
lent-names = refl

-- 24 comes last
lent-short : in_both (λ o. (called_file (one_section o) [] [] false (room 8 0 0 0 0 9)).reply)
    ≡ twice (Err (record { number = 24; section = record { 0 = 0 }; symbol = record { 0 = 0 }; entry = 0 }))
unfolding called_file
lent-short = refl

-- a refused call zeroes what was lent
short-file-zeroes : in_both (λ o. (called_file (take 63 (one_section o)) [] [] false (room 2 0 1 0 0 3)).lent)
    ≡ twice (record { sections = 0 ∷ 0 ∷ []; programs = []; functions = row_of_numbers 0 0 0 0 0 0 0 ∷ []; maps = []; relocations = []; bytes = 0 ∷ 0 ∷ 0 ∷ [] })
unfolding called_file
short-file-zeroes = refl

-- ---- what is listed

abbrev header_alone : Endianness → List ℕ
header_alone o = take 64 (changed o (e_shoff 0 ∷ []) (small_file o))

listed-at-the-limit : in_both (λ o. listed_file 64 (room 0 0 0 0 0 3) (header_alone o)) ≡ twice (lines ("license GPL" ∷ "version any" ∷ []))
unfolding listed_file
listed-at-the-limit = refl

-- a longer one is 26
listed-longer : in_both (λ o. listed_file 63 (room 0 0 0 0 0 3) (header_alone o)) ≡ twice (lines ("refused 26 0 0" ∷ []))
unfolding listed_file
listed-longer = refl

listed-machine : in_both (λ o. listed_file 1000 (room 0 0 0 0 0 3) (changed o (e_machine 0 ∷ []) (small_file o))) ≡ twice (lines ("refused 25 0 0" ∷ []))
unfolding listed_file
listed-machine = refl
