-- '25, in the bytes present, one of the first seven, the type, machine or a used table's entry size differs from these', at its limit and past it: what is said of
-- the small file with changes, in the two byte orders, 0 where it is accepted.
use Rattle.std.specs.Prelude.{◌≡◌, refl, [], ◌∷◌}
use Rattle.elf_worked.specs.Write.{byte_is, e_type, e_machine, e_shoff, e_shentsize, e_shnum, e_shstrndx, sh_type, sh_size, sh_link, sh_info, sh_addralign, sh_entsize}
use Rattle.elf_worked.specs.Run.{loaded_file, twice, file_says, small_says, cut_says}

-- ---- the first seven (E2)

as-it-is : small_says [] ≡ twice 0
unfolding loaded_file
as-it-is = refl

byte-0-is-126 : small_says (byte_is 0 126 ∷ []) ≡ twice 25
unfolding loaded_file
byte-0-is-126 = refl

byte-1-is-101 : small_says (byte_is 1 101 ∷ []) ≡ twice 25
unfolding loaded_file
byte-1-is-101 = refl

byte-2-is-0 : small_says (byte_is 2 0 ∷ []) ≡ twice 25
unfolding loaded_file
byte-2-is-0 = refl

byte-3-is-255 : small_says (byte_is 3 255 ∷ []) ≡ twice 25
unfolding loaded_file
byte-3-is-255 = refl

byte-4-is-1 : small_says (byte_is 4 1 ∷ []) ≡ twice 25
unfolding loaded_file
byte-4-is-1 = refl

byte-5-is-0 : small_says (byte_is 5 0 ∷ []) ≡ twice 25
unfolding loaded_file
byte-5-is-0 = refl

byte-5-is-3 : small_says (byte_is 5 3 ∷ []) ≡ twice 25
unfolding loaded_file
byte-5-is-3 = refl

-- the type is then read in the other order
byte-5-is-1 : small_says (byte_is 5 1 ∷ []) ≡ 0 ∷ 25 ∷ []
unfolding loaded_file
byte-5-is-1 = refl

byte-5-is-2 : small_says (byte_is 5 2 ∷ []) ≡ 25 ∷ 0 ∷ []
unfolding loaded_file
byte-5-is-2 = refl

byte-6-is-0 : small_says (byte_is 6 0 ∷ []) ≡ twice 25
unfolding loaded_file
byte-6-is-0 = refl

byte-6-is-2 : small_says (byte_is 6 2 ∷ []) ≡ twice 25
unfolding loaded_file
byte-6-is-2 = refl

byte-7-free : small_says (byte_is 7 165 ∷ []) ≡ twice 0
unfolding loaded_file
byte-7-free = refl

byte-15-free : small_says (byte_is 15 255 ∷ []) ≡ twice 0
unfolding loaded_file
byte-15-free = refl

-- ---- type, machine, e_shentsize (E3)

type-0 : small_says (e_type 0 ∷ []) ≡ twice 25
unfolding loaded_file
type-0 = refl

type-2 : small_says (e_type 2 ∷ []) ≡ twice 25
unfolding loaded_file
type-2 = refl

type-256 : small_says (e_type 256 ∷ []) ≡ twice 25
unfolding loaded_file
type-256 = refl

type-257 : small_says (e_type 257 ∷ []) ≡ twice 25
unfolding loaded_file
type-257 = refl

machine-246 : small_says (e_machine 246 ∷ []) ≡ twice 25
unfolding loaded_file
machine-246 = refl

machine-248 : small_says (e_machine 248 ∷ []) ≡ twice 25
unfolding loaded_file
machine-248 = refl

machine-503 : small_says (e_machine 503 ∷ []) ≡ twice 25
unfolding loaded_file
machine-503 = refl

machine-63232 : small_says (e_machine 63232 ∷ []) ≡ twice 25
unfolding loaded_file
machine-63232 = refl

header-size-63 : small_says (e_shentsize 63 ∷ []) ≡ twice 25
unfolding loaded_file
header-size-63 = refl

header-size-65 : small_says (e_shentsize 65 ∷ []) ≡ twice 25
unfolding loaded_file
header-size-65 = refl

header-size-320 : small_says (e_shentsize 320 ∷ []) ≡ twice 25
unfolding loaded_file
header-size-320 = refl

header-size-16384 : small_says (e_shentsize 16384 ∷ []) ≡ twice 25
unfolding loaded_file
header-size-16384 = refl

-- also where there is no section (E4)
header-size-no-table : small_says (e_shoff 0 ∷ e_shentsize 0 ∷ []) ≡ twice 25
unfolding loaded_file
header-size-no-table = refl

header-size-no-section : small_says (e_shnum 0 ∷ e_shentsize 65 ∷ []) ≡ twice 25
unfolding loaded_file
header-size-no-section = refl

-- e_version, e_entry, e_phoff, e_flags, e_ehsize, e_phentsize, e_phnum, sh_addralign (E7)
free-fields : small_says (record { at = 20; width = 4; number = 9 } ∷ record { at = 24; width = 8; number = 18446744073709551615 } ∷ record { at = 32; width = 8; number = 18446744073709551615 } ∷ record { at = 48; width = 4; number = 7 } ∷ record { at = 52; width = 2; number = 1 } ∷ record { at = 54; width = 2; number = 1 } ∷ record { at = 56; width = 2; number = 65535 } ∷ sh_addralign 1 18446744073709551615 ∷ sh_addralign 2 3 ∷ []) ≡ twice 0
unfolding loaded_file
free-fields = refl

-- ---- entry sizes of the tables in use (E5): the whole 64 bits, also where the table is empty

symbols-entry-23 : small_says (sh_entsize 2 23 ∷ []) ≡ twice 25
unfolding loaded_file
symbols-entry-23 = refl

symbols-entry-25 : small_says (sh_entsize 2 25 ∷ []) ≡ twice 25
unfolding loaded_file
symbols-entry-25 = refl

symbols-entry-4294967320 : small_says (sh_entsize 2 4294967320 ∷ []) ≡ twice 25
unfolding loaded_file
symbols-entry-4294967320 = refl

symbols-entry-6144 : small_says (sh_entsize 2 6144 ∷ []) ≡ twice 25
unfolding loaded_file
symbols-entry-6144 = refl

symbols-entry-empty : small_says (sh_size 2 0 ∷ sh_entsize 2 0 ∷ []) ≡ twice 25
unfolding loaded_file
symbols-entry-empty = refl

rel-entry-15 : small_says (sh_entsize 4 15 ∷ []) ≡ twice 25
unfolding loaded_file
rel-entry-15 = refl

rel-entry-17 : small_says (sh_entsize 4 17 ∷ []) ≡ twice 25
unfolding loaded_file
rel-entry-17 = refl

rel-entry-24 : small_says (sh_entsize 4 24 ∷ []) ≡ twice 25
unfolding loaded_file
rel-entry-24 = refl

rel-entry-empty : small_says (sh_size 4 0 ∷ sh_entsize 4 24 ∷ []) ≡ twice 25
unfolding loaded_file
rel-entry-empty = refl

rela-entry-16 : small_says (sh_entsize 5 16 ∷ []) ≡ twice 25
unfolding loaded_file
rela-entry-16 = refl

rela-entry-23 : small_says (sh_entsize 5 23 ∷ []) ≡ twice 25
unfolding loaded_file
rela-entry-23 = refl

rela-entry-25 : small_says (sh_entsize 5 25 ∷ []) ≡ twice 25
unfolding loaded_file
rela-entry-25 = refl

rela-entry-empty : small_says (sh_size 5 0 ∷ sh_entsize 5 0 ∷ []) ≡ twice 25
unfolding loaded_file
rela-entry-empty = refl

tables-empty : small_says (sh_size 2 0 ∷ sh_size 4 0 ∷ sh_size 5 0 ∷ []) ≡ twice 0
unfolding loaded_file
tables-empty = refl

other-entries-free : small_says (sh_entsize 1 9 ∷ sh_entsize 3 7 ∷ sh_entsize 6 1 ∷ []) ≡ twice 0
unfolding loaded_file
other-entries-free = refl

-- ---- not in use: of section 0, linked elsewhere, another type; a second symbol table (E24, E27, E28)

rel-of-section-0 : small_says (sh_info 4 0 ∷ sh_entsize 4 7 ∷ []) ≡ twice 0
unfolding loaded_file
rel-of-section-0 = refl

rel-linked-elsewhere : small_says (sh_link 4 3 ∷ sh_info 4 99 ∷ sh_entsize 4 7 ∷ []) ≡ twice 0
unfolding loaded_file
rel-linked-elsewhere = refl

rel-linked-to-0 : small_says (sh_link 4 0 ∷ sh_entsize 4 7 ∷ []) ≡ twice 0
unfolding loaded_file
rel-linked-to-0 = refl

rel-linked-to-33554432 : small_says (sh_link 4 33554432 ∷ sh_entsize 4 7 ∷ []) ≡ twice 0
unfolding loaded_file
rel-linked-to-33554432 = refl

type-5 : small_says (sh_type 4 5 ∷ sh_entsize 4 7 ∷ []) ≡ twice 0
unfolding loaded_file
type-5 = refl

type-65545 : small_says (sh_type 4 65545 ∷ sh_entsize 4 7 ∷ []) ≡ twice 0
unfolding loaded_file
type-65545 = refl

-- section 1 is now the first symbol table
two-symbol-tables : small_says (sh_type 1 2 ∷ []) ≡ twice 25
unfolding loaded_file
two-symbol-tables = refl

-- section 5 is the second
second-symbol-table-free : small_says (sh_type 5 2 ∷ sh_entsize 5 5 ∷ []) ≡ twice 0
unfolding loaded_file
second-symbol-table-free = refl

dynamic-symbols-free : small_says (sh_type 5 11 ∷ sh_entsize 5 5 ∷ []) ≡ twice 0
unfolding loaded_file
dynamic-symbols-free = refl

-- without a symbol table those linked to 0 are in use
no-symbol-table-rel-in-use : small_says (sh_type 2 1 ∷ sh_link 4 0 ∷ sh_entsize 4 7 ∷ []) ≡ twice 25
unfolding loaded_file
no-symbol-table-rel-in-use = refl

no-symbol-table-rel-fine : small_says (sh_type 2 1 ∷ sh_link 4 0 ∷ []) ≡ twice 0
unfolding loaded_file
no-symbol-table-rel-fine = refl

no-symbol-table-rel-free : small_says (sh_type 2 1 ∷ sh_entsize 4 7 ∷ []) ≡ twice 0
unfolding loaded_file
no-symbol-table-rel-free = refl

no-symbol-table-rel-of-section-0 : small_says (sh_type 2 1 ∷ sh_link 4 0 ∷ sh_info 4 0 ∷ sh_entsize 4 7 ∷ []) ≡ twice 0
unfolding loaded_file
no-symbol-table-rel-of-section-0 = refl

-- ---- in the bytes present (E1): a byte past the end differs from nothing, a field is compared as far as it goes

empty-file : file_says [] ≡ 26
unfolding loaded_file
empty-file = refl

of-1-wrong : cut_says 1 (byte_is 0 126 ∷ []) ≡ twice 25
unfolding loaded_file
of-1-wrong = refl

of-1-next-wrong : cut_says 1 (byte_is 1 101 ∷ []) ≡ twice 26
unfolding loaded_file
of-1-next-wrong = refl

of-2-wrong : cut_says 2 (byte_is 1 101 ∷ []) ≡ twice 25
unfolding loaded_file
of-2-wrong = refl

of-2-next-wrong : cut_says 2 (byte_is 2 0 ∷ []) ≡ twice 26
unfolding loaded_file
of-2-next-wrong = refl

of-3-wrong : cut_says 3 (byte_is 2 0 ∷ []) ≡ twice 25
unfolding loaded_file
of-3-wrong = refl

of-3-next-wrong : cut_says 3 (byte_is 3 255 ∷ []) ≡ twice 26
unfolding loaded_file
of-3-next-wrong = refl

of-4-wrong : cut_says 4 (byte_is 3 255 ∷ []) ≡ twice 25
unfolding loaded_file
of-4-wrong = refl

of-4-next-wrong : cut_says 4 (byte_is 4 1 ∷ []) ≡ twice 26
unfolding loaded_file
of-4-next-wrong = refl

of-5-wrong : cut_says 5 (byte_is 4 1 ∷ []) ≡ twice 25
unfolding loaded_file
of-5-wrong = refl

of-5-next-wrong : cut_says 5 (byte_is 5 3 ∷ []) ≡ twice 26
unfolding loaded_file
of-5-next-wrong = refl

of-6-wrong : cut_says 6 (byte_is 5 3 ∷ []) ≡ twice 25
unfolding loaded_file
of-6-wrong = refl

of-6-next-wrong : cut_says 6 (byte_is 6 2 ∷ []) ≡ twice 26
unfolding loaded_file
of-6-next-wrong = refl

of-7-wrong : cut_says 7 (byte_is 6 2 ∷ []) ≡ twice 25
unfolding loaded_file
of-7-wrong = refl

of-7 : cut_says 7 [] ≡ twice 26
unfolding loaded_file
of-7 = refl

of-16-next-wrong : cut_says 16 (e_type 514 ∷ []) ≡ twice 26
unfolding loaded_file
of-16-next-wrong = refl

of-17 : cut_says 17 [] ≡ twice 26
unfolding loaded_file
of-17 = refl

of-17-type-2 : cut_says 17 (e_type 2 ∷ []) ≡ 25 ∷ 26 ∷ []
unfolding loaded_file
of-17-type-2 = refl

of-17-type-257 : cut_says 17 (e_type 257 ∷ []) ≡ 26 ∷ 25 ∷ []
unfolding loaded_file
of-17-type-257 = refl

of-17-type-512 : cut_says 17 (e_type 512 ∷ []) ≡ twice 25
unfolding loaded_file
of-17-type-512 = refl

of-18-type-257 : cut_says 18 (e_type 257 ∷ []) ≡ twice 25
unfolding loaded_file
of-18-type-257 = refl

of-18-next-wrong : cut_says 18 (e_machine 0 ∷ []) ≡ twice 26
unfolding loaded_file
of-18-next-wrong = refl

of-19-machine-246 : cut_says 19 (e_machine 246 ∷ []) ≡ 25 ∷ 26 ∷ []
unfolding loaded_file
of-19-machine-246 = refl

of-19-machine-503 : cut_says 19 (e_machine 503 ∷ []) ≡ 26 ∷ 25 ∷ []
unfolding loaded_file
of-19-machine-503 = refl

of-20-machine-503 : cut_says 20 (e_machine 503 ∷ []) ≡ twice 25
unfolding loaded_file
of-20-machine-503 = refl

of-58-next-wrong : cut_says 58 (e_shentsize 257 ∷ []) ≡ twice 26
unfolding loaded_file
of-58-next-wrong = refl

of-59-header-size-65 : cut_says 59 (e_shentsize 65 ∷ []) ≡ 25 ∷ 26 ∷ []
unfolding loaded_file
of-59-header-size-65 = refl

of-59-header-size-320 : cut_says 59 (e_shentsize 320 ∷ []) ≡ 26 ∷ 25 ∷ []
unfolding loaded_file
of-59-header-size-320 = refl

of-60-header-size-320 : cut_says 60 (e_shentsize 320 ∷ []) ≡ twice 25
unfolding loaded_file
of-60-header-size-320 = refl

-- ---- a section header table that the file's end cuts (E6): headers of 48 bytes or more are looked at

-- section 6 is the symbol table, in place of section 2, and sections 4 and 5 are linked to it
cut-before-entry : cut_says 636 (sh_type 2 1 ∷ sh_type 6 2 ∷ sh_link 4 6 ∷ sh_link 5 6 ∷ sh_entsize 6 25 ∷ []) ≡ twice 26
unfolding loaded_file
cut-before-entry = refl

cut-behind-one-byte : cut_says 637 (sh_type 2 1 ∷ sh_type 6 2 ∷ sh_link 4 6 ∷ sh_link 5 6 ∷ sh_entsize 6 25 ∷ []) ≡ 25 ∷ 26 ∷ []
unfolding loaded_file
cut-behind-one-byte = refl

cut-behind-one-byte-280 : cut_says 637 (sh_type 2 1 ∷ sh_type 6 2 ∷ sh_link 4 6 ∷ sh_link 5 6 ∷ sh_entsize 6 280 ∷ []) ≡ twice 26
unfolding loaded_file
cut-behind-one-byte-280 = refl

cut-behind-one-byte-high : cut_says 637 (sh_type 2 1 ∷ sh_type 6 2 ∷ sh_link 4 6 ∷ sh_link 5 6 ∷ sh_entsize 6 72057594037927960 ∷ []) ≡ 26 ∷ 25 ∷ []
unfolding loaded_file
cut-behind-one-byte-high = refl

-- 48 bytes of its header are present: header 4 is in use
cut-at-48 : cut_says 628 (sh_type 2 1 ∷ sh_type 6 2 ∷ sh_link 4 6 ∷ sh_link 5 6 ∷ sh_entsize 4 17 ∷ []) ≡ twice 25
unfolding loaded_file
cut-at-48 = refl

-- 47 are not enough
cut-at-47 : cut_says 627 (sh_type 2 1 ∷ sh_type 6 2 ∷ sh_link 4 6 ∷ sh_link 5 6 ∷ sh_entsize 4 17 ∷ []) ≡ twice 26
unfolding loaded_file
cut-at-47 = refl

-- no symbol table is seen, so that header 4, linked to 0, is in use (E27)
cut-hides-symbols : cut_says 627 (sh_type 2 1 ∷ sh_type 6 2 ∷ sh_link 4 0 ∷ sh_info 5 0 ∷ sh_entsize 4 17 ∷ []) ≡ twice 25
unfolding loaded_file
cut-hides-symbols = refl

cut-shows-symbols : cut_says 628 (sh_type 2 1 ∷ sh_type 6 2 ∷ sh_link 4 0 ∷ sh_info 5 0 ∷ sh_entsize 4 17 ∷ []) ≡ twice 26
unfolding loaded_file
cut-shows-symbols = refl

cut-behind-wrong : cut_says 580 (sh_entsize 2 23 ∷ []) ≡ twice 25
unfolding loaded_file
cut-behind-wrong = refl

-- ---- 25 before 26 (E8)

machine-and-link : small_says (e_machine 62 ∷ e_shstrndx 0 ∷ []) ≡ twice 25
unfolding loaded_file
machine-and-link = refl

entry-and-link : small_says (sh_entsize 4 17 ∷ e_shstrndx 0 ∷ []) ≡ twice 25
unfolding loaded_file
entry-and-link = refl

entry-and-many-headers : small_says (sh_entsize 4 17 ∷ e_shnum 65535 ∷ []) ≡ twice 25
unfolding loaded_file
entry-and-many-headers = refl

short-and-machine : cut_says 63 (e_machine 62 ∷ []) ≡ twice 25
unfolding loaded_file
short-and-machine = refl
