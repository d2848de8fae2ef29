-- Why a deposit goes back: numbers 1 to 17, each once, with the places that it names.
use Rattle.std.specs.Prelude.{◌≡◌, refl, false, List, [], ◌∷◌, ◌++◌, ℕ, replicate}
use Rattle.std.proofs.lemmas.List.Edits.{sets}
use Rattle.model.specs.Patching.{Verdict}
use Rattle.worked.specs.Write.{Sec, Sym, Rel, text, plain_section, relocated, func, global, absent, reloc, deposit}
use Rattle.worked.specs.Run.{loaded, no}

abbrev exit : List ℕ
exit = 149 ∷ 0 ∷ 0 ∷ 0 ∷ 0 ∷ 0 ∷ 0 ∷ 0 ∷ []

-- what is said of some sections, symbols and relocations of a little-endian deposit
abbrev said : List Sec → List Sym → List Rel → Verdict
said ss ys rs = loaded (deposit 0 ss ys rs) [] false

-- ---- 1 to 3. The deposit.

-- the check of the one block is 1
check-wrong : loaded (sets (deposit 0 [] [] []) 508 (2 ∷ [])) [] false ≡ no 1 0 0 0
unfolding loaded
check-wrong = refl

order-2 : loaded (deposit 2 [] [] []) [] false ≡ no 2 0 0 0
unfolding loaded
order-2 = refl

btf : said (plain_section 1 ".BTF" [] ∷ []) [] [] ≡ no 3 0 0 0
unfolding loaded
btf = refl

-- ---- 4. A relocation of the section in hand has no symbol as target.

untargeted : said (plain_section 1 "a" [] ∷ relocated 1 1 (plain_section 4 "b" []) ∷ []) [] (reloc 0 absent 64 ∷ reloc 0 absent 64 ∷ []) ≡ no 4 4 0 0
unfolding loaded
untargeted = refl

-- ---- 5 to 7. The licence and the version.

licence-inner-zero : said (plain_section 3 "license" (97 ∷ 0 ∷ 98 ∷ []) ∷ []) [] [] ≡ no 5 3 0 0
unfolding loaded
licence-inner-zero = refl

licence-open : said (plain_section 3 "license" (71 ∷ 80 ∷ 76 ∷ []) ∷ []) [] [] ≡ no 6 3 0 0
unfolding loaded
licence-open = refl

version-3 : said (plain_section 2 "version" (1 ∷ 2 ∷ 3 ∷ []) ∷ []) [] [] ≡ no 7 2 0 0
unfolding loaded
version-3 = refl

-- ---- 8 to 10. Program and `maps` sections.

name-unknown : said (text 6 "xdp/" exit ∷ []) (func 1 6 "p" 0 8 ∷ []) [] ≡ no 8 6 0 0
unfolding loaded
name-unknown = refl

program-alone : said (text 6 "xdp" exit ∷ []) (func 1 7 "p" 0 8 ∷ []) [] ≡ no 9 6 0 0
unfolding loaded
program-alone = refl

program-past-data : said (text 6 "xdp" exit ∷ []) (func 9 6 "p" 0 16 ∷ []) [] ≡ no 10 6 9 0
unfolding loaded
program-past-data = refl

-- ---- 11. Two defined text symbols of a text section share an address: the first by index to repeat one.

shared : said (text 6 ".text" exit ∷ []) (func 1 6 "a" 0 8 ∷ func 2 6 "b" 4 0 ∷ func 3 6 "c" 0 8 ∷ func 4 6 "d" 4 0 ∷ []) [] ≡ no 11 6 3 0
unfolding loaded
shared = refl

-- ---- 12 to 15. The walk of a text section.

text-unmet : said (text 6 ".text" (exit ++ exit) ∷ []) (func 1 6 "a" 0 8 ∷ []) [] ≡ no 12 6 0 0
unfolding loaded
text-unmet = refl

text-size-0 : said (text 6 ".text" exit ∷ []) (func 4 6 "a" 0 0 ∷ []) [] ≡ no 13 6 4 0
unfolding loaded
text-size-0 = refl

text-past-data : said (text 6 ".text" exit ∷ []) (func 4 6 "a" 0 16 ∷ []) [] ≡ no 14 6 4 0
unfolding loaded
text-past-data = refl

text-odd : said (text 6 ".text" exit ∷ []) (func 4 6 "a" 0 4 ∷ []) [] ≡ no 15 6 4 0
unfolding loaded
text-odd = refl

-- ---- 16. A map record is under 20 bytes, or its pinning is neither 0 nor 1.

record-19 : said (plain_section 6 "maps" (replicate 28 0) ∷ []) (global 4 6 "m" 0 19 ∷ []) [] ≡ no 16 6 4 0
unfolding loaded
record-19 = refl

-- ---- 17. A `.maps` section is present: by prefix, the first of two.

btf-maps : said (plain_section 1 ".maps.x" [] ∷ plain_section 2 ".maps" [] ∷ []) [] [] ≡ no 17 1 0 0
unfolding loaded
btf-maps = refl
