-- Demand 3 on a worked file and a worked deposit: they differ, meet every hypothesis and have one catalogue; and a call that patches and rewrites the file.
use Rattle.std.specs.Prelude.{◌≡◌, refl, true, List, [], ◌∷◌, ◌++◌, ℕ, replicate, Ok}
use Rattle.model.specs.declared.Summary.{Summary}
use Rattle.model.specs.Bytes.{ascii}
use Rattle.model.specs.Contents.{catalogue_of}
use Rattle.model.specs.Patching.{finish}
use Rattle.model.specs.Deposit.{object_of}
use Rattle.model.specs.PatchList.{patches_of}
use Rattle.model.specs.Lent.{summary_of, load_of}
use Rattle.model.specs.declared.Room.{Room}
use Rattle.model.specs.ReadBack.{read_back}
use Rattle.model.specs.Elf.{elf_object_of}
use Rattle.model.specs.ElfRefusals.{load_elf_of}
use Rattle.guarantees.specs.WordsOfDemand3.{Input, FirstHalf, after}
use Rattle.guarantees.proofs.Demand3.{demand-3-first, second-lent}
use Rattle.guarantees.specs.ProvisosDecided.{is_named, distinct, none_named, maps_free, is_fair, fair-is, all_bytes, all_bytes-is}
use Rattle.worked.specs.Write.{text, plain_section, sized_section, func, global, deposit}
use Rattle.worked.specs.Run.{room}
use Rattle.elf_worked.specs.Write.{lsb, data_section, table_section, string_table, symbol_entry, elf_file}
use Rattle.elf_worked.specs.Run.{called_file}

abbrev helper_code : List ℕ
helper_code = 183 ∷ replicate 7 0 ++ (149 ∷ replicate 7 0)

-- a program section of 16 bytes of which `pass` covers 8; x stands in the bytes that no function covers
abbrev pass_code : ℕ → List ℕ
pass_code x = 0x85 ∷ 0 ∷ 0 ∷ 0 ∷ 113 ∷ 0 ∷ 0 ∷ 0 ∷ x ∷ replicate 7 0

abbrev pair_file : List ℕ
pair_file =
    elf_file lsb
    (data_section ".text" 1 6 helper_code
    ∷ data_section "xdp" 1 6 (pass_code 1)
    ∷ data_section ".data" 1 3 (1 ∷ 2 ∷ 3 ∷ 4 ∷ [])
    ∷ table_section ".symtab" 2 5 0 24 (replicate 24 0 ++ (symbol_entry lsb 1 2 1 0 16 ++ (symbol_entry lsb 8 2 2 0 8 ++ symbol_entry lsb 13 1 3 0 4)))
    ∷ table_section ".strtab" 3 0 0 0 (string_table ("helper" ∷ "pass" ∷ "rate" ∷ []))
    ∷ [])

-- its tables have no data here
abbrev pair_deposit : List ℕ
pair_deposit =
    deposit 0
    (text 1 ".text" helper_code
    ∷ text 2 "xdp" (pass_code 2)
    ∷ plain_section 3 ".data" (1 ∷ 2 ∷ 3 ∷ 4 ∷ [])
    ∷ sized_section 4 ".symtab" 96 []
    ∷ sized_section 5 ".strtab" 18 []
    ∷ sized_section 6 ".names" 40 []
    ∷ [])
    (func 1 1 "helper" 0 16 ∷ func 2 2 "pass" 0 8 ∷ global 3 3 "rate" 0 4 ∷ [])
    []

file-and-deposit : FirstHalf (elf_object_of pair_file) (object_of pair_deposit) (catalogue_of (elf_object_of pair_file))
    × FirstHalf (object_of pair_deposit) (elf_object_of pair_file) (catalogue_of (elf_object_of pair_file))
unfolding called_file is_named distinct none_named maps_free is_fair all_bytes
file-and-deposit =
    demand-3-first (Input.file pair_file) (Input.deposit pair_deposit) (catalogue_of (elf_object_of pair_file)) (all_bytes-is pair_file refl)
    (all_bytes-is pair_deposit refl)
    refl
    refl
    (fair-is (elf_object_of pair_file) refl)
    (fair-is (object_of pair_deposit) refl)

-- ---- calls: `rate` is given 5 6 7 8

abbrev pair_entries : List ℕ
pair_entries = 0 ∷ 4 ∷ 4 ∷ 4 ∷ 1 ∷ []

abbrev pair_bytes : List ℕ
pair_bytes = ascii "rate" ++ (5 ∷ 6 ∷ 7 ∷ 8 ∷ [])

abbrev pair_room : Room
pair_room = room 24 7 2 27 0 90

-- both calls give one answer and leave the same
same-calls : load_elf_of pair_file pair_entries pair_bytes true pair_room ≡ load_of pair_deposit pair_entries pair_bytes true pair_room
unfolding called_file
same-calls = refl

-- the file's is accepted, so what is read back from it is `after` of the plain catalogue
patched-file-call : (h : Summary) × ((load_elf_of pair_file pair_entries pair_bytes true pair_room).reply ≡ Ok h)
    × (read_back h (load_elf_of pair_file pair_entries pair_bytes true pair_room).lent
    ≡ after (elf_object_of pair_file) (patches_of pair_entries pair_bytes) true (catalogue_of (elf_object_of pair_file)))
unfolding called_file all_bytes
patched-file-call =
    let h : Summary = summary_of (finish (elf_object_of pair_file) (patches_of pair_entries pair_bytes) true (catalogue_of (elf_object_of pair_file))) in
    (h, refl, (second-lent (Input.file pair_file) pair_entries pair_bytes true pair_room h (all_bytes-is pair_file refl) refl).1)
