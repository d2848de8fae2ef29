-- What an accepted catalogue holds: licence and version, each of its tables and which entry of one key stays in it, instructions and their rewriting.
use Rattle.std.specs.Prelude.{◌≡◌, refl, Bool, true, false, List, [], ◌∷◌, ◌++◌, map, ℕ, ℤ, pos, negsuc, take, None, Some}
use Rattle.model.specs.declared.Endianness.{Endianness}
use Rattle.model.specs.declared.EbpfSectionKind.{EbpfSectionKind as Kind}
use Rattle.model.specs.declared.XdpAttachType.{XdpAttachType}
use Rattle.model.specs.declared.ProgramSection.{ProgramSection}
use Rattle.model.specs.declared.BpfInsn.{BpfInsn}
use Rattle.model.specs.Catalogue.{Catalogue}
use Rattle.worked.specs.Write.{Sec, Sym, Rel, text, plain_section, sized_section, at_address, relocated, func, global, reloc, deposit}
use Rattle.worked.specs.Run.{loaded, catalogue_in, insn, entry, program, function, words, data_map_of, legacy_map_of, relocation}

-- the eight bytes of an instruction that says x, and the instruction
abbrev says : ℕ → List ℕ
says x = 183 ∷ 0 ∷ 0 ∷ 0 ∷ x ∷ 0 ∷ 0 ∷ 0 ∷ []

abbrev said : ℕ → BpfInsn
said x = insn 183 0 (pos 0) (pos x)

abbrev card : List Sec → List Sym → List Rel → Catalogue
card ss ys rs = catalogue_in (loaded (deposit 0 ss ys rs) [] false)

-- seven words: 1, 4, 8, 2, 3, 5, 1
abbrev record28 : List ℕ
record28 = 1 ∷ 0 ∷ 0 ∷ 0 ∷ 4 ∷ 0 ∷ 0 ∷ 0 ∷ 8 ∷ 0 ∷ 0 ∷ 0 ∷ 2 ∷ 0 ∷ 0 ∷ 0 ∷ 3 ∷ 0 ∷ 0 ∷ 0 ∷ 5 ∷ 0 ∷ 0 ∷ 0 ∷ 1 ∷ 0 ∷ 0 ∷ 0 ∷ []

-- ---- Sections, licence and version

-- every section but `.BTF.ext`, by name; of one name the later
sections-listed : (card (plain_section 1 "b" (1 ∷ []) ∷ plain_section 2 "a" [] ∷ plain_section 3 ".BTF.ext" [] ∷ sized_section 4 "b" 9 [] ∷ plain_section 5 "a0" [] ∷ plain_section 6 "" [] ∷ []) [] []).sections ≡ entry "" 6 0 ∷ entry "a" 2 0 ∷ entry "a0" 5 0 ∷ entry "b" 4 9 ∷ []
unfolding loaded
sections-listed = refl

-- without its closing zero; bytes above 127 stay
licence-kept : (card (plain_section 1 "license" (71 ∷ 200 ∷ 0 ∷ []) ∷ plain_section 2 "license" (88 ∷ 0 ∷ []) ∷ []) [] []).licence ≡ 71 ∷ 200 ∷ []
unfolding loaded
licence-kept = refl

version-big : (catalogue_in (loaded (deposit 1 (plain_section 1 "version" (1 ∷ 2 ∷ 3 ∷ 4 ∷ []) ∷ []) [] []) [] false)).version ≡ Some 16909060
unfolding loaded
version-big = refl

-- ---- Programs and functions

-- both programs, one function, the later's
two-names-one-address : card (text 3 "xdp" (says 1 ++ says 2) ∷ []) (func 1 3 "b" 8 8 ∷ func 2 3 "a" 8 0 ∷ []) [] ≡ record {
  order = Endianness.Little;
  licence = 71 ∷ 80 ∷ 76 ∷ [];
  version = None;
  sections = entry "xdp" 3 16 ∷ [];
  programs = program "a" (ProgramSection.Xdp false XdpAttachType.Interface) 3 8 ∷ program "b" (ProgramSection.Xdp false XdpAttachType.Interface) 3 8 ∷ [];
  functions = function 3 8 8 "a" [] ∷ [];
  maps = [];
  relocations = [];
}
unfolding loaded
two-names-one-address = refl

-- one program, the later, both functions
one-name-two-addresses : (card (text 3 "xdp" (says 1) ∷ text 4 "kprobe/x" (says 2) ∷ []) (func 1 4 "a" 0 8 ∷ func 2 3 "a" 0 8 ∷ []) []).programs ≡ program "a" ProgramSection.KProbe 4 0 ∷ []
unfolding loaded
one-name-two-addresses = refl

-- by size, not at the next symbol: one in a function's middle is passed over
text-cut : (card (at_address 100 (text 3 ".text" (says 1 ++ (says 2 ++ says 3))) ∷ []) (func 1 3 "b" 116 8 ∷ func 2 3 "middle" 108 8 ∷ func 3 3 "" 100 16 ∷ []) []).functions
    ≡ function 3 100 0 "" (said 1 ∷ said 2 ∷ []) ∷ function 3 116 16 "b" (said 3 ∷ []) ∷ []
unfolding loaded
text-cut = refl

instruction-fields : (card (text 3 ".text" (24 ∷ 18 ∷ 255 ∷ 255 ∷ 0 ∷ 0 ∷ 0 ∷ 128 ∷ 0 ∷ 240 ∷ 0 ∷ 128 ∷ 255 ∷ 255 ∷ 255 ∷ 127 ∷ []) ∷ []) (func 1 3 "a" 0 16 ∷ []) []).functions ≡ function 3 0 0 "a" (insn 24 18 (negsuc 0) (negsuc 2147483647) ∷ insn 0 240 (negsuc 32767) (pos 2147483647) ∷ []) ∷ []
unfolding loaded
instruction-fields = refl

-- ---- Rewriting

-- 112 and 113 become 4, 114 and 115 become 45; other immediates, registers and opcodes stay
abbrev calls : List ℕ
calls =
    133 ∷ 0 ∷ 0 ∷ 0 ∷ 112 ∷ 0 ∷ 0 ∷ 0 ∷ 133 ∷ 0 ∷ 0 ∷ 0 ∷ 113 ∷ 0 ∷ 0 ∷ 0 ∷ 133 ∷ 0 ∷ 0 ∷ 0 ∷ 114 ∷ 0 ∷ 0 ∷ 0 ∷ 133 ∷ 0 ∷ 0 ∷ 0 ∷ 115 ∷ 0 ∷ 0 ∷ 0
    ∷ 133 ∷ 0 ∷ 0 ∷ 0 ∷ 111 ∷ 0 ∷ 0 ∷ 0 ∷ 133 ∷ 16 ∷ 0 ∷ 0 ∷ 113 ∷ 0 ∷ 0 ∷ 0 ∷ 141 ∷ 0 ∷ 0 ∷ 0 ∷ 113 ∷ 0 ∷ 0 ∷ 0 ∷ []

abbrev immediates : Bool → List (List ℤ)
immediates on = map (λ f. map (λ i. i.imm) f.code) (catalogue_in (loaded (deposit 0 (text 1 ".text" calls ∷ []) (func 1 1 "f" 0 56 ∷ []) []) [] on)).functions

rewritten : immediates true ≡ (pos 4 ∷ pos 4 ∷ pos 45 ∷ pos 45 ∷ pos 111 ∷ pos 113 ∷ pos 113 ∷ []) ∷ []
unfolding loaded
rewritten = refl

not-rewritten : immediates false ≡ (pos 112 ∷ pos 113 ∷ pos 114 ∷ pos 115 ∷ pos 111 ∷ pos 113 ∷ pos 113 ∷ []) ∷ []
unfolding loaded
not-rewritten = refl

-- ---- Maps

-- symbols of any kind, by name; short records are zero-filled, whatever byte follows them, and bytes past 28 unread
legacy-maps : (card (plain_section 3 "maps" (record28 ++ (9 ∷ [])) ∷ plain_section 4 "maps/27" (take 27 record28 ++ (255 ∷ [])) ∷ []) (func 1 3 "b" 0 29 ∷ global 2 3 "a" 8 20 ∷ global 3 4 "" 0 27 ∷ []) []).maps
    ≡ legacy_map_of "" 4 3 (words 1 4 8 2 3 5 1)
    ∷ legacy_map_of "a" 3 2 (words 8 2 3 5 1 0 0)
    ∷ legacy_map_of "b" 3 1 (words 1 4 8 2 3 5 1)
    ∷ []
unfolding loaded
legacy-maps = refl

-- by prefix, which wins over the text mark
data-maps : (card (text 3 ".data.x" (7 ∷ []) ∷ text 4 ".rodata.str" (8 ∷ []) ∷ sized_section 5 ".bss.y" 2 (9 ∷ []) ∷ []) [] []).maps
    ≡ data_map_of ".bss.y" 5 Kind.Bss (words 2 4 2 1 0 0 0) (0 ∷ 0 ∷ [])
    ∷ data_map_of ".data.x" 3 Kind.Data (words 2 4 1 1 0 0 0) (7 ∷ [])
    ∷ data_map_of ".rodata.str" 4 Kind.Rodata (words 2 4 1 1 128 0 0) (8 ∷ [])
    ∷ []
unfolding loaded
data-maps = refl

-- one name space: section order, then symbol order
later-map : (card (plain_section 1 "maps" record28 ∷ plain_section 2 ".data" (7 ∷ []) ∷ []) (global 1 1 ".data" 0 28 ∷ global 2 1 "m" 0 28 ∷ global 3 1 "m" 0 20 ∷ []) []).maps ≡ data_map_of ".data" 2 Kind.Data (words 2 4 1 1 0 0 0) (7 ∷ []) ∷ legacy_map_of "m" 1 3 (words 1 4 8 2 3 0 0) ∷ []
unfolding loaded
later-map = refl

-- ---- Relocations: of text and program sections, by section and offset, the later of one offset

relocations-kept : (card (relocated 0 2 (text 1 ".text" []) ∷ relocated 1 3 (text 2 "xdp" (says 1)) ∷ relocated 0 4 (plain_section 3 ".data" []) ∷ []) (func 1 2 "p" 0 8 ∷ []) (reloc 8 1 64 ∷ reloc 0 2 32 ∷ reloc 8 3 0 ∷ reloc 0 4 1 ∷ [])).relocations ≡ relocation 1 0 32 2 ∷ relocation 1 8 64 1 ∷ relocation 2 0 1 4 ∷ relocation 2 8 0 3 ∷ []
unfolding loaded
relocations-kept = refl
