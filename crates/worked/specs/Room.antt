-- '24. A lent table or byte buffer is smaller than the catalogue': each lent table and the bytes, filled, and one element short.
use Rattle.std.specs.Prelude.{◌≡◌, refl, false, List, [], ◌∷◌, ◌++◌, ℕ, replicate, Err, None, Ok}
use Rattle.model.specs.declared.Endianness.{Endianness}
use Rattle.model.specs.declared.Room.{Room}
use Rattle.model.specs.Bytes.{ascii}
use Rattle.worked.specs.Write.{text, plain_section, relocated, func, reloc, deposit}
use Rattle.worked.specs.Run.{called, room, row_of_numbers}

-- a program, its function, a map and a relocation: each table has one row or two, 4 numbers a section, 7 a program, 27 a map, 4 a relocation
abbrev small : List ℕ
small =
    deposit 0
    (relocated 0 1 (text 1 "xdp" (149 ∷ 0 ∷ 0 ∷ 0 ∷ 0 ∷ 0 ∷ 0 ∷ 0 ∷ [])) ∷ plain_section 2 ".data" (7 ∷ 8 ∷ []) ∷ [])
    (func 1 1 "p" 0 8 ∷ [])
    (reloc 0 1 64 ∷ [])

exact : called small [] [] false (room 8 7 1 27 4 28) ≡ record {
  reply = Ok (record { order = Endianness.Little; version = None; license = 3; sections = 2; programs = 1; functions = 1; maps = 1; relocations = 1; bytes = 28 });
  lent = record {
    sections = 3 ∷ 5 ∷ 2 ∷ 2 ∷ 8 ∷ 3 ∷ 1 ∷ 8 ∷ [];
    programs = 11 ∷ 1 ∷ 6 ∷ 0 ∷ 0 ∷ 1 ∷ 0 ∷ [];
    functions = row_of_numbers 1 0 0 12 1 13 8 ∷ [];
    maps = 21 ∷ 5 ∷ 2 ∷ 4 ∷ 0 ∷ 26 ∷ 2 ∷ 2 ∷ 4 ∷ 2 ∷ 1 ∷ 0 ∷ 0 ∷ 0 ∷ replicate 13 0;
    relocations = 1 ∷ 0 ∷ 64 ∷ 1 ∷ [];
    bytes = ascii "GPL.dataxdppp" ++ (149 ∷ replicate 7 0 ++ (ascii ".data" ++ (7 ∷ 8 ∷ [])));
  };
}
unfolding called
exact = refl

-- the number that is said, 0 where the catalogue is given
abbrev said : Room → ℕ
said r = elim (called small [] [] false r).reply as (λ a. ℕ) [ Ok h ↦ 0 | Err q ↦ q.number ]

sections-short : said (room 7 7 1 27 4 28) ≡ 24
unfolding called
sections-short = refl

programs-short : said (room 8 6 1 27 4 28) ≡ 24
unfolding called
programs-short = refl

functions-short : said (room 8 7 0 27 4 28) ≡ 24
unfolding called
functions-short = refl

maps-short : said (room 8 7 1 26 4 28) ≡ 24
unfolding called
maps-short = refl

relocations-short : said (room 8 7 1 27 3 28) ≡ 24
unfolding called
relocations-short = refl

bytes-short : said (room 8 7 1 27 4 27) ≡ 24
unfolding called
bytes-short = refl

-- 'A refused call zeroes what it was lent to write'; '24 names 0 0 0'
short-zeroes : called small [] [] false (room 9 8 2 1 5 3)
    ≡ record {
      reply = Err (record { number = 24; section = record { 0 = 0 }; symbol = record { 0 = 0 }; entry = 0 });
      lent =
          record {
            sections = replicate 9 0;
            programs = replicate 8 0;
            functions = row_of_numbers 0 0 0 0 0 0 0 ∷ row_of_numbers 0 0 0 0 0 0 0 ∷ [];
            maps = 0 ∷ [];
            relocations = replicate 5 0;
            bytes = 0 ∷ 0 ∷ 0 ∷ [];
          };
    }
unfolding called
short-zeroes = refl
