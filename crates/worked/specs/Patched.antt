-- Patch lists: 18 and 20 to 23, each once and naming only the entry, and what an accepted list does to the maps' bytes.
use Rattle.std.specs.Prelude.{◌≡◌, refl, false, List, [], ◌∷◌, map, ℕ, Err}
use Rattle.model.specs.Object.{Patch}
use Rattle.model.specs.Patching.{Verdict}
use Rattle.model.specs.PatchList.{patches_of}
use Rattle.worked.specs.Write.{plain_section, sized_section, global, deposit}
use Rattle.worked.specs.Run.{loaded, called, catalogue_in, no, patch, room}

-- `.data` of 8 bytes with `rate` at 2 of size 4, `.bss` of 4 with `count`, and a symbol of a section that is no map
abbrev meter : List ℕ
meter =
    deposit 0
    (plain_section 1 ".data" (1 ∷ 2 ∷ 3 ∷ 4 ∷ 5 ∷ 6 ∷ 7 ∷ 8 ∷ []) ∷ sized_section 2 ".bss" 4 [] ∷ plain_section 3 "other" [] ∷ [])
    (global 1 1 "rate" 2 4 ∷ global 2 2 "count" 0 4 ∷ global 3 3 "mark" 0 1 ∷ global 4 1 "past" 7 2 ∷ [])
    []

abbrev said : List Patch → Verdict
said ps = loaded meter ps false

-- the data before the name, with a byte between
abbrev buffer : List ℕ
buffer = 21 ∷ 22 ∷ 23 ∷ 24 ∷ 9 ∷ 114 ∷ 97 ∷ 116 ∷ 101 ∷ []

-- name at 5 of 4 bytes, data at 0 of 4 bytes
entry-lent : patches_of (5 ∷ 4 ∷ 0 ∷ 4 ∷ 1 ∷ []) buffer ≡ patch "rate" (21 ∷ 22 ∷ 23 ∷ 24 ∷ []) 1 ∷ []
unfolding called
entry-lent = refl

-- ---- 18, 20 to 23

name-past-buffer : (called meter (6 ∷ 4 ∷ 0 ∷ 4 ∷ 1 ∷ []) buffer false (room 99 0 0 200 0 300)).reply
    ≡ Err (record { number = 18; section = record { 0 = 0 }; symbol = record { 0 = 0 }; entry = 1 })
unfolding called
name-past-buffer = refl

-- an entry before it is passed over
none-bears-it : said (patch "rat" [] 0 ∷ patch "rates" [] 1 ∷ []) ≡ no 20 0 0 2
unfolding loaded
none-bears-it = refl

data-long : said (patch "rate" (1 ∷ 2 ∷ 3 ∷ 4 ∷ 5 ∷ []) 1 ∷ []) ≡ no 21 0 0 1
unfolding loaded
data-long = refl

no-map : said (patch "mark" (1 ∷ []) 1 ∷ []) ≡ no 22 0 0 1
unfolding loaded
no-map = refl

past-map : said (patch "past" (1 ∷ 2 ∷ []) 1 ∷ []) ≡ no 23 0 0 1
unfolding loaded
past-map = refl

-- ---- what patches do

-- the bytes of `.bss` and of `.data`: a later entry of the same place wins, an unknown name is passed over
in-list-order : map (λ m. m.own)
    (catalogue_in
    (said
    (patch "rate" (21 ∷ 22 ∷ 23 ∷ 24 ∷ []) 1
    ∷ patch "rat" (9 ∷ []) 0
    ∷ patch "count" (5 ∷ 6 ∷ 7 ∷ 8 ∷ []) 0
    ∷ patch "rate" (31 ∷ 32 ∷ 33 ∷ 34 ∷ []) 0
    ∷ []))
    ).maps
    ≡ (5 ∷ 6 ∷ 7 ∷ 8 ∷ []) ∷ (1 ∷ 2 ∷ 31 ∷ 32 ∷ 33 ∷ 34 ∷ 7 ∷ 8 ∷ []) ∷ []
unfolding loaded
in-list-order = refl
