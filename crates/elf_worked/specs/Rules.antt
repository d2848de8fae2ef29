-- '26, a used table or a section reaches outside the file, a name its string table, a limit of document 01 is broken, a used table isn't whole entries, or a used
-- link names no section of its kind', each at its limit and past it: what is said of the small file with changes, in the two byte orders, 0 where it is accepted.
use Rattle.std.specs.Prelude.{◌≡◌, refl, true, false, List, [], ◌∷◌, ◌++◌, ℕ, replicate, Some}
use Rattle.model.specs.Elf.{Header, File}
use Rattle.model.specs.ElfRefusals.{header_ok, string_ok, limits_ok}
use Rattle.elf_worked.specs.Write.{lsb, small_file, changed, byte_is, e_shoff, e_shnum, e_shstrndx, sh_name, sh_type, sh_flags, sh_offset, sh_size, sh_link, sh_info, sh_entsize, st_name}
use Rattle.elf_worked.specs.Run.{loaded_file, in_both, twice, file_says, small_says, cut_says}

-- a section of that type, offset and size
abbrev sized_header : ℕ → ℕ → ℕ → Header
sized_header k p z = record { index = 1; name = 0; kind = k; flags = 0; address = 0; offset = p; size = z; link = 0; info = 0; entry = [] }

-- a file of so many headers, symbol bytes and tables
abbrev limited_file : ℕ → ℕ → List Header → File
limited_file n y ts = record { order = lsb; at = 64; count = n; names = 1; sections = []; symbols = Some (sized_header 2 0 y); relocations = ts }

-- ---- the file's length, the section header table (E9 to E13)

of-63-no-table : cut_says 63 (e_shoff 0 ∷ []) ≡ twice 26
unfolding loaded_file
of-63-no-table = refl

of-64-no-table : cut_says 64 (e_shoff 0 ∷ []) ≡ twice 0
unfolding loaded_file
of-64-no-table = refl

of-63-no-section : cut_says 63 (e_shnum 0 ∷ []) ≡ twice 26
unfolding loaded_file
of-63-no-section = refl

of-64-no-section : cut_says 64 (e_shnum 0 ∷ []) ≡ twice 0
unfolding loaded_file
of-64-no-section = refl

table-at-the-end : cut_says 644 [] ≡ twice 0
unfolding loaded_file
table-at-the-end = refl

table-one-byte-short : cut_says 643 [] ≡ twice 26
unfolding loaded_file
table-one-byte-short = refl

table-one-byte-on : small_says (e_shoff 197 ∷ []) ≡ twice 26
unfolding loaded_file
table-one-byte-on = refl

one-header-more : small_says (e_shnum 8 ∷ []) ≡ twice 26
unfolding loaded_file
one-header-more = refl

one-header-more-present : in_both (λ o. file_says (changed o (e_shnum 8 ∷ []) (small_file o) ++ replicate 64 0)) ≡ twice 0
unfolding loaded_file
one-header-more-present = refl

one-header-more-short : in_both (λ o. file_says (changed o (e_shnum 8 ∷ []) (small_file o) ++ replicate 63 0)) ≡ twice 26
unfolding loaded_file
one-header-more-short = refl

most-headers : small_says (e_shnum 65535 ∷ []) ≡ twice 26
unfolding loaded_file
most-headers = refl

table-far : small_says (e_shoff 18446744073709551615 ∷ []) ≡ twice 26
unfolding loaded_file
table-far = refl

-- e_shoff + 64 × e_shnum is 2^64
table-wraps : small_says (e_shoff 18446744073709551168 ∷ []) ≡ twice 26
unfolding loaded_file
table-wraps = refl

-- e_shoff 0: no table, whatever e_shnum and e_shstrndx say (E10)
none-at-0 : small_says (e_shoff 0 ∷ e_shnum 5 ∷ e_shstrndx 9 ∷ []) ≡ twice 0
unfolding loaded_file
none-at-0 = refl

-- e_shnum 0: no section, wherever e_shoff points (E11)
none-far : small_says (e_shoff 18446744073709551615 ∷ e_shnum 0 ∷ e_shstrndx 65535 ∷ []) ≡ twice 0
unfolding loaded_file
none-far = refl

-- entry 0 is no section (E13)
entry-0-free : small_says (sh_name 0 4294967295 ∷ sh_type 0 2 ∷ sh_flags 0 6 ∷ sh_offset 0 18446744073709551615 ∷ sh_size 0 18446744073709551615 ∷ sh_link 0 2 ∷ sh_info 0 1 ∷ sh_entsize 0 1 ∷ []) ≡ twice 0
unfolding loaded_file
entry-0-free = refl

-- ---- sections and the file's end (E16, E17), sizes (E18)

section-at-the-end : small_says (sh_offset 1 640 ∷ []) ≡ twice 0
unfolding loaded_file
section-at-the-end = refl

section-one-past : small_says (sh_offset 1 641 ∷ []) ≡ twice 26
unfolding loaded_file
section-one-past = refl

section-whole-file : small_says (sh_offset 1 0 ∷ sh_size 1 644 ∷ []) ≡ twice 0
unfolding loaded_file
section-whole-file = refl

section-longer : small_says (sh_offset 1 0 ∷ sh_size 1 645 ∷ []) ≡ twice 26
unfolding loaded_file
section-longer = refl

section-empty-far : small_says (sh_offset 1 18446744073709551615 ∷ sh_size 1 0 ∷ []) ≡ twice 0
unfolding loaded_file
section-empty-far = refl

section-wraps : small_says (sh_offset 1 18446744073709551615 ∷ sh_size 1 1 ∷ []) ≡ twice 26
unfolding loaded_file
section-wraps = refl

type-0-inside : small_says (sh_type 1 0 ∷ sh_offset 1 640 ∷ []) ≡ twice 0
unfolding loaded_file
type-0-inside = refl

type-0-outside : small_says (sh_type 1 0 ∷ sh_offset 1 641 ∷ []) ≡ twice 26
unfolding loaded_file
type-0-outside = refl

nobits-far : small_says (sh_type 1 8 ∷ sh_offset 1 18446744073709551615 ∷ []) ≡ twice 0
unfolding loaded_file
nobits-far = refl

nobits-most : small_says (sh_type 1 8 ∷ sh_size 1 16777216 ∷ []) ≡ twice 0
unfolding loaded_file
nobits-most = refl

nobits-more : small_says (sh_type 1 8 ∷ sh_size 1 16777217 ∷ []) ≡ twice 26
unfolding loaded_file
nobits-more = refl

size-most-outside : small_says (sh_size 1 16777216 ∷ []) ≡ twice 26
unfolding loaded_file
size-most-outside = refl

size-4294967296 : small_says (sh_size 1 4294967296 ∷ []) ≡ twice 26
unfolding loaded_file
size-4294967296 = refl

size-most-bits : small_says (sh_size 1 18446744073709551615 ∷ []) ≡ twice 26
unfolding loaded_file
size-most-bits = refl

-- the tables too, in use or not
symbols-outside : small_says (sh_offset 2 597 ∷ []) ≡ twice 26
unfolding loaded_file
symbols-outside = refl

strings-outside : small_says (sh_offset 3 642 ∷ []) ≡ twice 26
unfolding loaded_file
strings-outside = refl

rel-outside : small_says (sh_offset 4 629 ∷ []) ≡ twice 26
unfolding loaded_file
rel-outside = refl

rela-outside : small_says (sh_offset 5 621 ∷ []) ≡ twice 26
unfolding loaded_file
rela-outside = refl

names-outside : small_says (sh_offset 6 608 ∷ []) ≡ twice 26
unfolding loaded_file
names-outside = refl

unused-rel-at-the-end : small_says (sh_info 4 0 ∷ sh_offset 4 628 ∷ []) ≡ twice 0
unfolding loaded_file
unused-rel-at-the-end = refl

unused-rel-outside : small_says (sh_info 4 0 ∷ sh_offset 4 629 ∷ []) ≡ twice 26
unfolding loaded_file
unused-rel-outside = refl

-- of a file as long as one may be
header-most : header_ok 16777216 (sized_header 1 0 16777216) ≡ true
unfolding loaded_file
header-most = refl

header-most-from-1 : header_ok 16777216 (sized_header 1 1 16777216) ≡ false
unfolding loaded_file
header-most-from-1 = refl

header-more : header_ok 33554432 (sized_header 1 0 16777217) ≡ false
unfolding loaded_file
header-more = refl

header-nobits-most : header_ok 64 (sized_header 8 0 16777216) ≡ true
unfolding loaded_file
header-nobits-most = refl

header-nobits-more : header_ok 33554432 (sized_header 8 0 16777217) ≡ false
unfolding loaded_file
header-nobits-more = refl

-- ---- e_shstrndx (E20), sh_link of the symbol table (E21)

names-link-0 : small_says (e_shstrndx 0 ∷ []) ≡ twice 26
unfolding loaded_file
names-link-0 = refl

names-link-1 : small_says (e_shstrndx 1 ∷ []) ≡ twice 26
unfolding loaded_file
names-link-1 = refl

names-link-2 : small_says (e_shstrndx 2 ∷ []) ≡ twice 26
unfolding loaded_file
names-link-2 = refl

names-link-7 : small_says (e_shstrndx 7 ∷ []) ≡ twice 26
unfolding loaded_file
names-link-7 = refl

names-link-1536 : small_says (e_shstrndx 1536 ∷ []) ≡ twice 26
unfolding loaded_file
names-link-1536 = refl

names-link-65535 : small_says (e_shstrndx 65535 ∷ []) ≡ twice 26
unfolding loaded_file
names-link-65535 = refl

one-header : small_says (e_shnum 1 ∷ e_shstrndx 0 ∷ []) ≡ twice 26
unfolding loaded_file
one-header = refl

one-header-link-1 : small_says (e_shnum 1 ∷ e_shstrndx 1 ∷ []) ≡ twice 26
unfolding loaded_file
one-header-link-1 = refl

-- entry 0 is no string table
entry-0-of-strings : small_says (sh_type 0 3 ∷ sh_size 0 37 ∷ sh_offset 0 159 ∷ e_shstrndx 0 ∷ []) ≡ twice 26
unfolding loaded_file
entry-0-of-strings = refl

-- `.strtab` may serve both
names-link-3 : small_says (e_shstrndx 3 ∷ sh_name 1 0 ∷ sh_name 2 1 ∷ sh_name 3 2 ∷ sh_name 4 0 ∷ sh_name 5 0 ∷ sh_name 6 0 ∷ []) ≡ twice 0
unfolding loaded_file
names-link-3 = refl

symbols-link-0 : small_says (sh_link 2 0 ∷ []) ≡ twice 26
unfolding loaded_file
symbols-link-0 = refl

symbols-link-1 : small_says (sh_link 2 1 ∷ []) ≡ twice 26
unfolding loaded_file
symbols-link-1 = refl

symbols-link-6 : small_says (sh_link 2 6 ∷ []) ≡ twice 0
unfolding loaded_file
symbols-link-6 = refl

symbols-link-7 : small_says (sh_link 2 7 ∷ []) ≡ twice 26
unfolding loaded_file
symbols-link-7 = refl

symbols-link-65539 : small_says (sh_link 2 65539 ∷ []) ≡ twice 26
unfolding loaded_file
symbols-link-65539 = refl

symbols-link-4294967295 : small_says (sh_link 2 4294967295 ∷ []) ≡ twice 26
unfolding loaded_file
symbols-link-4294967295 = refl

-- also where it has no symbol
no-symbol-link-0 : small_says (sh_size 2 0 ∷ sh_link 2 0 ∷ []) ≡ twice 26
unfolding loaded_file
no-symbol-link-0 = refl

-- of a second symbol table it is free (E24)
second-symbols-link-0 : small_says (sh_type 5 2 ∷ sh_link 5 0 ∷ []) ≡ twice 0
unfolding loaded_file
second-symbols-link-0 = refl

-- ---- names (E22, E23)

symbol-name-at-2 : small_says (st_name 1 2 ∷ []) ≡ twice 0
unfolding loaded_file
symbol-name-at-2 = refl

symbol-name-at-3 : small_says (st_name 1 3 ∷ []) ≡ twice 26
unfolding loaded_file
symbol-name-at-3 = refl

symbol-name-at-4 : small_says (st_name 1 4 ∷ []) ≡ twice 26
unfolding loaded_file
symbol-name-at-4 = refl

symbol-name-at-16777216 : small_says (st_name 1 16777216 ∷ []) ≡ twice 26
unfolding loaded_file
symbol-name-at-16777216 = refl

symbol-name-at-4294967295 : small_says (st_name 1 4294967295 ∷ []) ≡ twice 26
unfolding loaded_file
symbol-name-at-4294967295 = refl

symbol-name-open : small_says (byte_is 118 98 ∷ []) ≡ twice 26
unfolding loaded_file
symbol-name-open = refl

-- the table needn't end with a zero, nor begin with one
symbol-name-open-unused : small_says (st_name 1 0 ∷ byte_is 118 98 ∷ []) ≡ twice 0
unfolding loaded_file
symbol-name-open-unused = refl

strings-begin-with-128 : small_says (byte_is 116 128 ∷ []) ≡ twice 0
unfolding loaded_file
strings-begin-with-128 = refl

-- bytes behind a name's end are free
strings-128-behind-name : small_says (st_name 1 0 ∷ byte_is 117 128 ∷ []) ≡ twice 0
unfolding loaded_file
strings-128-behind-name = refl

symbol-name-127 : small_says (byte_is 117 127 ∷ []) ≡ twice 0
unfolding loaded_file
symbol-name-127 = refl

symbol-name-128 : small_says (byte_is 117 128 ∷ []) ≡ twice 26
unfolding loaded_file
symbol-name-128 = refl

symbol-name-255 : small_says (byte_is 117 255 ∷ []) ≡ twice 26
unfolding loaded_file
symbol-name-255 = refl

symbol-name-one-string : small_says (st_name 1 0 ∷ sh_size 3 1 ∷ []) ≡ twice 0
unfolding loaded_file
symbol-name-one-string = refl

symbol-name-no-strings : small_says (st_name 1 0 ∷ sh_size 3 0 ∷ []) ≡ twice 26
unfolding loaded_file
symbol-name-no-strings = refl

no-symbol-no-strings : small_says (sh_size 2 24 ∷ sh_size 3 0 ∷ []) ≡ twice 0
unfolding loaded_file
no-symbol-no-strings = refl

-- entry 0 isn't looked at (E25)
symbol-0-name-free : small_says (st_name 0 4294967295 ∷ []) ≡ twice 0
unfolding loaded_file
symbol-0-name-free = refl

section-name-at-36 : small_says (sh_name 1 36 ∷ []) ≡ twice 0
unfolding loaded_file
section-name-at-36 = refl

section-name-at-37 : small_says (sh_name 1 37 ∷ []) ≡ twice 26
unfolding loaded_file
section-name-at-37 = refl

section-name-at-603979776 : small_says (sh_name 1 603979776 ∷ []) ≡ twice 26
unfolding loaded_file
section-name-at-603979776 = refl

section-name-open : small_says (byte_is 195 115 ∷ []) ≡ twice 26
unfolding loaded_file
section-name-open = refl

section-name-127 : small_says (byte_is 160 127 ∷ []) ≡ twice 0
unfolding loaded_file
section-name-127 = refl

section-name-128 : small_says (byte_is 160 128 ∷ []) ≡ twice 26
unfolding loaded_file
section-name-128 = refl

-- of all sections, the tables too
last-section-name : small_says (sh_name 6 37 ∷ []) ≡ twice 26
unfolding loaded_file
last-section-name = refl

unused-section-name : small_says (sh_info 5 0 ∷ sh_name 5 37 ∷ []) ≡ twice 26
unfolding loaded_file
unused-section-name = refl

-- 65,535 bytes and 65,536
longest-name : string_ok (replicate 65535 110 ++ (0 ∷ [])) ≡ true
unfolding loaded_file
longest-name = refl

longer-name : string_ok (replicate 65536 110 ++ (0 ∷ [])) ≡ false
unfolding loaded_file
longer-name = refl

-- ---- whole entries (E25, E30)

symbols-0 : small_says (sh_size 2 0 ∷ []) ≡ twice 0
unfolding loaded_file
symbols-0 = refl

symbols-23 : small_says (sh_size 2 23 ∷ []) ≡ twice 26
unfolding loaded_file
symbols-23 = refl

symbols-24 : small_says (sh_size 2 24 ∷ []) ≡ twice 0
unfolding loaded_file
symbols-24 = refl

symbols-25 : small_says (sh_size 2 25 ∷ []) ≡ twice 26
unfolding loaded_file
symbols-25 = refl

symbols-47 : small_says (sh_size 2 47 ∷ []) ≡ twice 26
unfolding loaded_file
symbols-47 = refl

rel-0 : small_says (sh_size 4 0 ∷ []) ≡ twice 0
unfolding loaded_file
rel-0 = refl

rel-15 : small_says (sh_size 4 15 ∷ []) ≡ twice 26
unfolding loaded_file
rel-15 = refl

rel-17 : small_says (sh_size 4 17 ∷ []) ≡ twice 26
unfolding loaded_file
rel-17 = refl

rel-32 : small_says (sh_size 4 32 ∷ []) ≡ twice 0
unfolding loaded_file
rel-32 = refl

rela-0 : small_says (sh_size 5 0 ∷ []) ≡ twice 0
unfolding loaded_file
rela-0 = refl

rela-16 : small_says (sh_size 5 16 ∷ []) ≡ twice 26
unfolding loaded_file
rela-16 = refl

rela-25 : small_says (sh_size 5 25 ∷ []) ≡ twice 26
unfolding loaded_file
rela-25 = refl

rela-48 : small_says (sh_size 5 48 ∷ []) ≡ twice 0
unfolding loaded_file
rela-48 = refl

unused-rel-15 : small_says (sh_info 4 0 ∷ sh_size 4 15 ∷ []) ≡ twice 0
unfolding loaded_file
unused-rel-15 = refl

second-symbols-23 : small_says (sh_type 5 2 ∷ sh_size 5 23 ∷ []) ≡ twice 0
unfolding loaded_file
second-symbols-23 = refl

-- ---- sh_info (E29)

rel-of-6 : small_says (sh_info 4 6 ∷ []) ≡ twice 0
unfolding loaded_file
rel-of-6 = refl

rel-of-7 : small_says (sh_info 4 7 ∷ []) ≡ twice 26
unfolding loaded_file
rel-of-7 = refl

rel-of-65537 : small_says (sh_info 4 65537 ∷ []) ≡ twice 26
unfolding loaded_file
rel-of-65537 = refl

rel-of-4294967295 : small_says (sh_info 4 4294967295 ∷ []) ≡ twice 26
unfolding loaded_file
rel-of-4294967295 = refl

-- a REL table, a RELA table, one that isn't in use
rel-of-itself : small_says (sh_info 4 4 ∷ []) ≡ twice 26
unfolding loaded_file
rel-of-itself = refl

rela-of-rel : small_says (sh_info 5 4 ∷ []) ≡ twice 26
unfolding loaded_file
rela-of-rel = refl

rel-of-rela : small_says (sh_info 4 5 ∷ []) ≡ twice 26
unfolding loaded_file
rel-of-rela = refl

rel-of-unused-rela : small_says (sh_info 4 5 ∷ sh_link 5 0 ∷ []) ≡ twice 26
unfolding loaded_file
rel-of-unused-rela = refl

-- the symbol table, its strings, NOBITS
rel-of-symbols : small_says (sh_info 4 2 ∷ []) ≡ twice 0
unfolding loaded_file
rel-of-symbols = refl

rel-of-strings : small_says (sh_info 4 3 ∷ []) ≡ twice 0
unfolding loaded_file
rel-of-strings = refl

rel-of-nobits : small_says (sh_type 1 8 ∷ []) ≡ twice 0
unfolding loaded_file
rel-of-nobits = refl

-- also of an empty table, and where there is no symbol table
empty-rel-of-7 : small_says (sh_size 4 0 ∷ sh_info 4 7 ∷ []) ≡ twice 26
unfolding loaded_file
empty-rel-of-7 = refl

no-symbols-rel-of-9 : small_says (sh_type 2 1 ∷ sh_link 4 0 ∷ sh_info 4 9 ∷ []) ≡ twice 26
unfolding loaded_file
no-symbols-rel-of-9 = refl

unused-rel-of-7 : small_says (sh_link 4 3 ∷ sh_info 4 7 ∷ []) ≡ twice 0
unfolding loaded_file
unused-rel-of-7 = refl

-- ---- limits: the file's length, S, Y, R (E14, E18, E25, E30)

at-limits : limits_ok 16777216 (limited_file 4097 1572888 (sized_header 9 0 1048560 ∷ sized_header 4 0 24 ∷ [])) ≡ true
unfolding loaded_file
at-limits = refl

long-file : limits_ok 16777217 (limited_file 4097 1572888 []) ≡ false
unfolding loaded_file
long-file = refl

many-sections : limits_ok 16777216 (limited_file 4098 1572888 []) ≡ false
unfolding loaded_file
many-sections = refl

many-symbols : limits_ok 16777216 (limited_file 4097 1572912 []) ≡ false
unfolding loaded_file
many-symbols = refl

many-relocations : limits_ok 16777216 (limited_file 4097 1572888 (sized_header 9 0 1048560 ∷ sized_header 4 0 48 ∷ [])) ≡ false
unfolding loaded_file
many-relocations = refl

rel-limit : limits_ok 16777216 (limited_file 4097 1572888 (sized_header 9 0 1048576 ∷ [])) ≡ true
unfolding loaded_file
rel-limit = refl

rel-more : limits_ok 16777216 (limited_file 4097 1572888 (sized_header 9 0 1048592 ∷ [])) ≡ false
unfolding loaded_file
rel-more = refl

rela-limit : limits_ok 16777216 (limited_file 4097 1572888 (sized_header 4 0 1572864 ∷ [])) ≡ true
unfolding loaded_file
rela-limit = refl

rela-more : limits_ok 16777216 (limited_file 4097 1572888 (sized_header 4 0 1572888 ∷ [])) ≡ false
unfolding loaded_file
rela-more = refl
