-- Demand 3 on worked deposits: two that differ and meet every hypothesis, and calls that accept one of them, patched and rewritten too, or refuse it.
use Rattle.std.specs.Prelude.{◌≡◌, refl, Bool, true, false, List, [], ◌∷◌, ◌++◌, ℕ, ◌+◌, ◌-◌, length, replicate, Err, Ok}
use Rattle.model.specs.declared.Summary.{Summary}
use Rattle.model.specs.Bytes.{ascii, little_bytes, records}
use Rattle.model.specs.Contents.{catalogue_of}
use Rattle.model.specs.Refusals.{no_section, no_symbol}
use Rattle.model.specs.Patching.{finish}
use Rattle.model.specs.Deposit.{weigh, check_ok, checks_ok, frame_ok, stream_in, stream_of, head_of, section_record, symbol_record, relocation_record, parts_from, parts_of, end_of, all, all_zero, head_ok, length_ok, name_ok, section_ok, symbol_ok, relocation_ok, rising_from, records_ok, stream_rules, stream_ok, reloc_of, section_of, symbol_kind, symbol_of, byte_order, stated_by, object_of, has_btf, deposit_refusal, load_deposit}
use Rattle.model.specs.PatchList.{patch_from, patches_of}
use Rattle.model.specs.ProgramNumbers.{variant_of}
use Rattle.model.specs.Instruction.{eight, unsigned}
use Rattle.model.specs.Lent.{placed, section_row, program_row, function_row, map_row, relocation_row, bytes_of, sections_at, programs_at, functions_at, code_start, maps_at, own_start, summary_of, image_of, fits_in, filled_to, zeroed, refused_outcome, too_small, Outcome, load_of}
use Rattle.model.specs.declared.Room.{Room}
use Rattle.model.specs.ReadBack.{read_back}
use Rattle.guarantees.specs.WordsOfDemand3.{Input, FirstHalf, after}
use Rattle.guarantees.proofs.Demand3.{demand-3-first, second-lent}
use Rattle.guarantees.specs.ProvisosDecided.{is_named, distinct, none_named, maps_free, is_fair, fair-is, all_bytes, all_bytes-is}
use Rattle.guarantees.proofs.ProvisosNeeded.{computed_load}

-- every definition that a call runs through
unfoldable pub run_call : List ℕ → List ℕ → List ℕ → Bool → Room → Outcome
unfolding computed_load records weigh check_ok checks_ok frame_ok stream_in stream_of head_of section_record symbol_record relocation_record parts_from parts_of end_of all all_zero head_ok length_ok name_ok section_ok symbol_ok relocation_ok rising_from records_ok stream_rules stream_ok reloc_of section_of symbol_kind symbol_of byte_order stated_by object_of has_btf deposit_refusal load_deposit patch_from patches_of variant_of eight unsigned placed section_row program_row function_row map_row relocation_row bytes_of sections_at programs_at functions_at code_start maps_at own_start summary_of image_of fits_in filled_to zeroed load_of
run_call d entries bytes on room = load_of d entries bytes on room

-- ---- a deposit of one block

abbrev word : ℕ → List ℕ
word n = little_bytes 4 n

abbrev long : ℕ → List ℕ
long n = little_bytes 8 n

abbrev section_bytes : ℕ → ℕ → ℕ → ℕ → ℕ → ℕ → List ℕ
section_bytes i mark name n at size =
    word i ++ (word mark ++ (word name ++ (word n ++ (long 0 ++ (long size ++ (word at ++ (word size ++ (word 0 ++ word 0))))))))

abbrev symbol_bytes : ℕ → ℕ → ℕ → ℕ → ℕ → ℕ → List ℕ
symbol_bytes i s name n size kind = word i ++ (word s ++ (word name ++ (word n ++ (long 0 ++ (long size ++ (kind ∷ 1 ∷ replicate 6 0))))))

abbrev padded : List ℕ → List ℕ
padded s = s ++ replicate (508 - length s) 0

abbrev checked : List ℕ → List ℕ
checked s = s ++ little_bytes 4 (weigh 0 s + 1)

-- document 01's listing, with a program section of 16 bytes of which `pass` covers 8, and a `.data`; x stands in the bytes that no function covers
deposit : ℕ → List ℕ
deposit x =
    checked
    (padded
    (word 0
    ++ (word 3 ++ (word 3 ++ (word 0 ++ (word 27 ++ (word 36 ++ (long 0
    ++ (section_bytes 1 1 0 5 0 16
    ++ (section_bytes 2 1 5 3 16 16
    ++ (section_bytes 3 0 8 5 32 4
    ++ (symbol_bytes 1 1 13 6 16 1
    ++ (symbol_bytes 2 2 19 4 8 1
    ++ (symbol_bytes 3 3 23 4 4 2
    ++ (ascii ".textxdp.datahelperpassrate"
    ++ (183 ∷ 0 ∷ 0 ∷ 0 ∷ 0 ∷ 0 ∷ 0 ∷ 0 ∷ 149 ∷ 0 ∷ 0 ∷ 0 ∷ 0 ∷ 0 ∷ 0 ∷ 0 ∷ 0x85 ∷ 0 ∷ 0 ∷ 0 ∷ 113 ∷ 0 ∷ 0 ∷ 0 ∷ x ∷ 0 ∷ 0 ∷ 0 ∷ 0 ∷ 0 ∷ 0 ∷ 0 ∷ 1 ∷ 2 ∷ 3 ∷ 4 ∷ []))))))))))))))))

-- two deposits that differ have one catalogue
same-catalogue : FirstHalf (object_of (deposit 1)) (object_of (deposit 2)) (catalogue_of (object_of (deposit 1)))
    × FirstHalf (object_of (deposit 2)) (object_of (deposit 1)) (catalogue_of (object_of (deposit 1)))
unfolding run_call deposit is_named distinct none_named maps_free is_fair all_bytes
same-catalogue =
    demand-3-first (Input.deposit (deposit 1)) (Input.deposit (deposit 2)) (catalogue_of (object_of (deposit 1))) (all_bytes-is (deposit 1) refl) (all_bytes-is (deposit 2) refl) refl refl
    (fair-is (object_of (deposit 1)) refl)
    (fair-is (object_of (deposit 2)) refl)

-- ---- calls

abbrev room : ℕ → Room
room bytes = record { sections = 13; programs = 7; functions = 2; maps = 30; relocations = 0; bytes = bytes }

-- `rate` is given 5 6 7 8, an unknown name is passed over, and `rate` is given 50 60 70 80
abbrev entries : List ℕ
entries = 0 ∷ 4 ∷ 4 ∷ 4 ∷ 1 ∷ 8 ∷ 5 ∷ 0 ∷ 1 ∷ 0 ∷ 0 ∷ 4 ∷ 13 ∷ 4 ∷ 0 ∷ []

abbrev lent_bytes : List ℕ
lent_bytes = ascii "rate" ++ (5 ∷ 6 ∷ 7 ∷ 8 ∷ (ascii "other" ++ (50 ∷ 60 ∷ 70 ∷ 80 ∷ [])))

-- a call that patches and rewrites is accepted, so what is read back from it is `after` of the plain catalogue
patched-call : (h : Summary) × ((load_of (deposit 1) entries lent_bytes true (room 63)).reply ≡ Ok h)
    × (read_back h (load_of (deposit 1) entries lent_bytes true (room 63)).lent
    ≡ after (object_of (deposit 1)) (patches_of entries lent_bytes) true (catalogue_of (object_of (deposit 1))))
unfolding run_call deposit all_bytes
patched-call =
    let h : Summary = summary_of (finish (object_of (deposit 1)) (patches_of entries lent_bytes) true (catalogue_of (object_of (deposit 1)))) in
    (h, refl, (second-lent (Input.deposit (deposit 1)) entries lent_bytes true (room 63) h (all_bytes-is (deposit 1) refl) refl).1)

-- the two deposits leave the same in what was lent
same-call : load_of (deposit 1) entries lent_bytes true (room 63) ≡ load_of (deposit 2) entries lent_bytes true (room 63)
unfolding run_call deposit
same-call = refl

-- one byte less of room is 24, and a length that is no multiple of 512 is 1
no_room : load_of (deposit 1) [] [] false (room 62) ≡ refused_outcome (room 62) too_small
unfolding run_call deposit
no_room = refl

no_block : (load_of (0 ∷ []) [] [] false (room 63)).reply ≡ Err (record { number = 1; section = no_section; symbol = no_symbol; entry = 0 })
unfolding run_call
no_block = refl
