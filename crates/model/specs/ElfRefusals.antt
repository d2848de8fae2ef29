-- Paper 1 of document 02: numbers 25 and 26; the load of a file, and its listing.
use Rattle.std.specs.Prelude.{Bool, true, false, cond, ◌&&◌, ◌||◌, not, List, [], ◌∷◌, reverse, ℕ, ◌+◌, ◌-◌, ◌*◌, eqb, leb, ltb, length, take, drop, Option}
use Rattle.model.specs.declared.Endianness.{Endianness}
use Rattle.model.specs.declared.Refusal.{Refusal}
use Rattle.model.specs.declared.Room.{Room}
use Rattle.model.specs.Bytes.{starts_with, maybe, or_else, part, little_bytes, records, inside}
use Rattle.model.specs.LicenceVersion.{has_zero}
use Rattle.model.specs.Object.{Patch}
use Rattle.model.specs.Refusals.{no_section, no_symbol}
use Rattle.model.specs.Patching.{Verdict, refused, load}
use Rattle.model.specs.Deposit.{most_bytes, all, has_btf, of_deposit}
use Rattle.model.specs.PatchList.{patches_of}
use Rattle.model.specs.Lent.{Outcome, outcome_in}
use Rattle.model.specs.Listing.{refusal_text, text_of}
use Rattle.model.specs.Elf.{field, Header, is_type, is_relocations, entry_size, entry_count, whole_entries, section_numbered, File, file_of, strings_of}
use Rattle.model.specs.Elf.{up_to_zero, elf_object_of}

-- ---- '25, in the bytes present, one of the first seven, the type, machine or a used table's entry size differs from these' (not so)

-- S117: the w bytes of a number, in the file's order (E34)
unfoldable pub field_bytes : Endianness → ℕ → ℕ → List ℕ
field_bytes Endianness.Little w x = little_bytes w x
field_bytes Endianness.Big w x = reverse (little_bytes w x)

-- S117: 'in the bytes present': as far as a field of w bytes goes, it is that number (E1)
unfoldable pub field_is : Endianness → ℕ → ℕ → List ℕ → Bool
field_is o w x present = starts_with present (field_bytes o w x)

-- S117: 7F 45 4C 46, then 2, then 1 (little) or 2 (big), then 1 (E2)
abbrev pub first_seven : Endianness → List ℕ
first_seven Endianness.Little = 127 ∷ 69 ∷ 76 ∷ 70 ∷ 2 ∷ 1 ∷ 1 ∷ []
first_seven Endianness.Big = 127 ∷ 69 ∷ 76 ∷ 70 ∷ 2 ∷ 2 ∷ 1 ∷ []

-- S117: the whole sh_entsize, also of an empty table (E5)
abbrev pub entry_ok : Endianness → Header → Bool
entry_ok o h = field_is o 8 (entry_size h) h.entry

-- S117: type 1 ('relocatable files'), machine 247, e_shentsize 64 (E3), also where there is no section (E4)
unfoldable pub kind_ok : List ℕ → File → Bool
kind_ok f p =
    starts_with (take 7 f) (first_seven p.order)
    && (field_is p.order 2 1 (part f 16 2)
    && (field_is p.order 2 247 (part f 18 2)
    && (field_is p.order 2 64 (part f 58 2)
    && (maybe p.symbols true (entry_ok p.order)
    && all (entry_ok p.order) p.relocations))))

-- ---- '26, a used table or a section reaches outside the file, a name its string table, a limit of document 01 is broken (the deposit's length being the
-- file's), a used table isn't whole entries, or a used link names no section of its kind' (not so)

-- S118: 'above the file's length is 26 for every type but NOBITS'. 'Size 0 reaches nowhere' (E17). 'sh_size above 16,777,216 is 26, NOBITS too' (E18)
unfoldable pub header_ok : ℕ → Header → Bool
header_ok length h = leb h.size most_bytes && (is_type 8 h || (eqb h.size 0 || inside h.offset h.size length))

-- S119: 'it must name a section (from 1) of type 3' (E20, E21)
unfoldable pub links_strings : List Header → ℕ → Bool
links_strings hs n = maybe (section_numbered hs n) false (is_type 3)

-- S120: from its offset on: 'No zero byte before the table's end is 26' (E22). 'A name above 65,535 bytes or with a byte above 127 is 26' (E23)
unfoldable pub string_ok : List ℕ → Bool
string_ok s = has_zero s && (leb (length (up_to_zero s)) 65535 && all (λ b. leb b 127) (up_to_zero s))

-- S120: of all sections
unfoldable pub section_names_ok : List ℕ → File → Bool
section_names_ok f p = let s : List ℕ = strings_of f p p.names in all (λ h. string_ok (drop h.name s)) p.sections

-- S119, S120: its link (E21), whole entries, and the names of all symbols from 1 on
unfoldable pub symbol_table_ok : List ℕ → File → Header → Bool
symbol_table_ok f p t =
    let s : List ℕ = strings_of f p t.link in
    links_strings p.sections t.link
    && (whole_entries t
    && all (λ at. string_ok (drop at s)) (records (λ r. field p.order r 0 4) 24 (entry_count t - 1) (drop (t.offset + 24) f)))

-- S119: 'sh_info must name a section (from 1) that is no REL or RELA table' (E29); 'Not whole entries is 26' (E30)
unfoldable pub reloc_table_ok : List Header → Header → Bool
reloc_table_ok hs t = maybe (section_numbered hs t.info) false (λ h. not (is_relocations h)) && whole_entries t

-- S121: 'R is the sum over all tables in use' (E30)
unfoldable pub entries_of : List Header → ℕ
entries_of [] = 0
entries_of (t ∷ ts) = entry_count t + entries_of ts

-- S121: 'a limit of document 01': the file's length (E18), S (E14: 4,097 entries fit), Y (E25: 65,537 entries fit), R (E30)
unfoldable pub limits_ok : ℕ → File → Bool
limits_ok length p =
    leb length most_bytes
    && (leb p.count 4097
    && (leb (maybe p.symbols 0 (λ t. entry_count t)) 65537
    && leb (entries_of p.relocations) 65536))

-- S118, S121: 'A file under 64 bytes that 25 lets pass is 26' (E9). 'e_shoff + 64 × e_shnum above the file's length is 26' (E12); 'An empty table reaches
-- nowhere' (E11)
unfoldable pub rules_ok : List ℕ → File → Bool
rules_ok f p =
    leb 64 (length f)
    && (limits_ok (length f) p
    && ((eqb p.count 0 || inside p.at (64 * p.count) (length f))
    && (all (header_ok (length f)) p.sections
    && ((eqb p.count 0 || links_strings p.sections p.names)
    && (section_names_ok f p
    && (maybe p.symbols true (symbol_table_ok f p)
    && all (reloc_table_ok p.sections) p.relocations))))))

-- ---- the load

-- S122: 'on files they replace 1 and 2, in this order': 25, 26, then 3. 'Both name 0 0 0' (E8)
unfoldable pub elf_refusal : List ℕ → Option Refusal
elf_refusal f =
    or_else (of_deposit 25 (not (kind_ok f (file_of f))))
    (or_else (of_deposit 26 (not (rules_ok f (file_of f))))
    (of_deposit 3 (has_btf (elf_object_of f))))

-- S123: 'From 3 on everything is document 01's on these records' (E35)
unfoldable pub load_elf : List ℕ → List Patch → Bool → Verdict
load_elf f ps on = maybe (elf_refusal f) (load (elf_object_of f) ps on) (λ r. refused r)

-- S123: 'The file has a call of its own': 25, 26, 3 to 24, and every lent element
unfoldable pub load_elf_of : List ℕ → List ℕ → List ℕ → Bool → Room → Outcome
load_elf_of f entries bytes on room = outcome_in room (load_elf f (patches_of entries bytes) on)

-- S124: the listing of a file of so many bytes at most; a longer one is 26
unfoldable pub file_listing_of : ℕ → Room → List ℕ → List ℕ
file_listing_of most room f =
    cond (ltb most (length f)) (refusal_text (record { number = 26; section = no_section; symbol = no_symbol; entry = 0 }))
    (text_of (load_elf_of f [] [] false room))
