-- The demands' two files: one whose card is the same each run, and one with two symbols called `rate`.
use Rattle.std.specs.Prelude.{◌≡◌, refl, false, List, [], ◌∷◌, ◌++◌, ℕ}
use Rattle.model.specs.declared.EbpfSectionKind.{EbpfSectionKind as Kind}
use Rattle.worked.specs.Write.{text, plain_section, func, global, deposit}
use Rattle.worked.specs.Run.{loaded, listed, lines, catalogue_in, no, patch, words, data_map_of, room}

abbrev exit : List ℕ
exit = 149 ∷ 0 ∷ 0 ∷ 0 ∷ 0 ∷ 0 ∷ 0 ∷ 0 ∷ []

-- 'The first had a `.text` of three functions, an `xdp` program and one global, `rate`.'
abbrev first : List ℕ
first =
    deposit 0
    (text 1 ".text" (exit ++ (exit ++ (exit ++ exit))) ∷ text 2 "xdp" exit ∷ plain_section 3 ".rodata" (1 ∷ 0 ∷ 0 ∷ 0 ∷ []) ∷ [])
    (func 1 1 "third" 24 8 ∷ func 2 1 "first" 0 8 ∷ func 3 1 "second" 8 16 ∷ func 4 2 "meter" 0 8 ∷ global 5 3 "rate" 0 4 ∷ [])
    []

first-card : listed (room 100 100 10 100 100 1000) first
    ≡ lines
    ("license GPL"
    ∷ "version any"
    ∷ "program meter Xdp 2 0"
    ∷ "function 1 0 1 first"
    ∷ "function 1 8 2 second"
    ∷ "function 1 24 1 third"
    ∷ "function 2 0 1 meter"
    ∷ "map .rodata 3 4 4"
    ∷ [])
unfolding listed
first-card = refl

first-patched : (catalogue_in (loaded first (patch "rate" (9 ∷ 8 ∷ 7 ∷ 6 ∷ []) 1 ∷ []) false)).maps
    ≡ data_map_of ".rodata" 3 Kind.Rodata (words 2 4 4 1 128 0 0) (9 ∷ 8 ∷ 7 ∷ 6 ∷ []) ∷ []
unfolding loaded
first-patched = refl

-- 'The second had two symbols called `rate`, one in `.data`, one in `.rodata`.'
abbrev second : List ℕ
second =
    deposit 0
    (text 1 "xdp" exit ∷ plain_section 2 ".data" (1 ∷ 0 ∷ 0 ∷ 0 ∷ []) ∷ plain_section 3 ".rodata" (2 ∷ 0 ∷ 0 ∷ 0 ∷ []) ∷ [])
    (func 1 1 "meter" 0 8 ∷ global 2 2 "rate" 0 4 ∷ global 3 3 "rate" 0 4 ∷ [])
    []

second-refused : loaded second (patch "rate" (9 ∷ 0 ∷ 0 ∷ 0 ∷ []) 1 ∷ []) false ≡ no 19 0 0 1
unfolding loaded
second-refused = refl

-- without a patch of `rate` it is accepted, with both maps
second-accepted : (catalogue_in (loaded second (patch "scale" [] 0 ∷ []) false)).maps
    ≡ data_map_of ".data" 2 Kind.Data (words 2 4 4 1 0 0 0) (1 ∷ 0 ∷ 0 ∷ 0 ∷ [])
    ∷ data_map_of ".rodata" 3 Kind.Rodata (words 2 4 4 1 128 0 0) (2 ∷ 0 ∷ 0 ∷ 0 ∷ [])
    ∷ []
unfolding loaded
second-accepted = refl
