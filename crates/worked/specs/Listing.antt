-- Document 01, 'The listing program': its example, from the deposit's bytes over every lent element to the printed text.
use Rattle.std.specs.Prelude.{◌≡◌, refl, true, List, [], ◌∷◌, ◌++◌, ℕ, replicate, None, Ok}
use Rattle.model.specs.declared.Endianness.{Endianness}
use Rattle.model.specs.Bytes.{ascii}
use Rattle.worked.specs.Write.{text, plain_section, sized_section, at_address, func, deposit}
use Rattle.worked.specs.Run.{called, listed, lines, room, row_of_numbers}

-- 'Sections, at address 0: 1 `.text` of 16 bytes, 2 `xdp` text of 8, 3 `.bss` size 4; defined text symbols `helper` at 0 size 16 in 1, `pass` at 0 size 8 in 2'
abbrev pub example : List ℕ
example =
    deposit 0
    (text 1 ".text" (183 ∷ 0 ∷ 0 ∷ 0 ∷ 0 ∷ 0 ∷ 0 ∷ 0 ∷ 149 ∷ 0 ∷ 0 ∷ 0 ∷ 0 ∷ 0 ∷ 0 ∷ 0 ∷ [])
    ∷ text 2 "xdp" (149 ∷ 0 ∷ 0 ∷ 0 ∷ 0 ∷ 0 ∷ 0 ∷ 0 ∷ [])
    ∷ sized_section 3 ".bss" 4 []
    ∷ [])
    (func 1 1 "helper" 0 16 ∷ func 2 2 "pass" 0 8 ∷ [])
    []

example-text : listed (room 100 100 10 100 100 1000) example
    ≡ lines ("license GPL" ∷ "version any" ∷ "program pass Xdp 2 0" ∷ "function 1 0 2 helper" ∷ "function 2 0 1 pass" ∷ "map .bss 3 4 4" ∷ [])
unfolding listed
example-text = refl

-- its one block, byte by byte: 302 of stream, zeros, the check
example-bytes : example
    ≡ (0 ∷ 0 ∷ 0 ∷ 0 ∷ 3 ∷ 0 ∷ 0 ∷ 0 ∷ 2 ∷ 0 ∷ 0 ∷ 0 ∷ 0 ∷ 0 ∷ 0 ∷ 0 ∷ 22 ∷ 0 ∷ 0 ∷ 0 ∷ 24 ∷ 0 ∷ 0 ∷ 0
    ∷ 0 ∷ 0 ∷ 0 ∷ 0 ∷ 0 ∷ 0 ∷ 0 ∷ 0 ∷ 1 ∷ 0 ∷ 0 ∷ 0 ∷ 1 ∷ 0 ∷ 0 ∷ 0 ∷ 0 ∷ 0 ∷ 0 ∷ 0 ∷ 5 ∷ 0 ∷ 0 ∷ 0
    ∷ 0 ∷ 0 ∷ 0 ∷ 0 ∷ 0 ∷ 0 ∷ 0 ∷ 0 ∷ 16 ∷ 0 ∷ 0 ∷ 0 ∷ 0 ∷ 0 ∷ 0 ∷ 0 ∷ 0 ∷ 0 ∷ 0 ∷ 0 ∷ 16 ∷ 0 ∷ 0 ∷ 0
    ∷ 0 ∷ 0 ∷ 0 ∷ 0 ∷ 0 ∷ 0 ∷ 0 ∷ 0 ∷ 2 ∷ 0 ∷ 0 ∷ 0 ∷ 1 ∷ 0 ∷ 0 ∷ 0 ∷ 5 ∷ 0 ∷ 0 ∷ 0 ∷ 3 ∷ 0 ∷ 0 ∷ 0
    ∷ 0 ∷ 0 ∷ 0 ∷ 0 ∷ 0 ∷ 0 ∷ 0 ∷ 0 ∷ 8 ∷ 0 ∷ 0 ∷ 0 ∷ 0 ∷ 0 ∷ 0 ∷ 0 ∷ 16 ∷ 0 ∷ 0 ∷ 0 ∷ 8 ∷ 0 ∷ 0 ∷ 0
    ∷ 0 ∷ 0 ∷ 0 ∷ 0 ∷ 0 ∷ 0 ∷ 0 ∷ 0 ∷ 3 ∷ 0 ∷ 0 ∷ 0 ∷ 0 ∷ 0 ∷ 0 ∷ 0 ∷ 8 ∷ 0 ∷ 0 ∷ 0 ∷ 4 ∷ 0 ∷ 0 ∷ 0
    ∷ 0 ∷ 0 ∷ 0 ∷ 0 ∷ 0 ∷ 0 ∷ 0 ∷ 0 ∷ 4 ∷ 0 ∷ 0 ∷ 0 ∷ 0 ∷ 0 ∷ 0 ∷ 0 ∷ 24 ∷ 0 ∷ 0 ∷ 0 ∷ 0 ∷ 0 ∷ 0 ∷ 0
    ∷ 0 ∷ 0 ∷ 0 ∷ 0 ∷ 0 ∷ 0 ∷ 0 ∷ 0 ∷ 1 ∷ 0 ∷ 0 ∷ 0 ∷ 1 ∷ 0 ∷ 0 ∷ 0 ∷ 12 ∷ 0 ∷ 0 ∷ 0 ∷ 6 ∷ 0 ∷ 0 ∷ 0
    ∷ 0 ∷ 0 ∷ 0 ∷ 0 ∷ 0 ∷ 0 ∷ 0 ∷ 0 ∷ 16 ∷ 0 ∷ 0 ∷ 0 ∷ 0 ∷ 0 ∷ 0 ∷ 0 ∷ 1 ∷ 1 ∷ 0 ∷ 0 ∷ 0 ∷ 0 ∷ 0 ∷ 0
    ∷ 2 ∷ 0 ∷ 0 ∷ 0 ∷ 2 ∷ 0 ∷ 0 ∷ 0 ∷ 18 ∷ 0 ∷ 0 ∷ 0 ∷ 4 ∷ 0 ∷ 0 ∷ 0 ∷ 0 ∷ 0 ∷ 0 ∷ 0 ∷ 0 ∷ 0 ∷ 0 ∷ 0
    ∷ 8 ∷ 0 ∷ 0 ∷ 0 ∷ 0 ∷ 0 ∷ 0 ∷ 0 ∷ 1 ∷ 1 ∷ 0 ∷ 0 ∷ 0 ∷ 0 ∷ 0 ∷ 0 ∷ 46 ∷ 116 ∷ 101 ∷ 120 ∷ 116 ∷ 120 ∷ 100 ∷ 112
    ∷ 46 ∷ 98 ∷ 115 ∷ 115 ∷ 104 ∷ 101 ∷ 108 ∷ 112 ∷ 101 ∷ 114 ∷ 112 ∷ 97 ∷ 115 ∷ 115 ∷ 183 ∷ 0 ∷ 0 ∷ 0 ∷ 0 ∷ 0 ∷ 0 ∷ 0 ∷ 149 ∷ 0
    ∷ 0 ∷ 0 ∷ 0 ∷ 0 ∷ 0 ∷ 0 ∷ 149 ∷ 0 ∷ 0 ∷ 0 ∷ 0 ∷ 0 ∷ 0 ∷ 0 ∷ [])
    ++ (replicate 206 0 ++ (88 ∷ 228 ∷ 11 ∷ 0 ∷ []))
unfolding called
example-bytes = refl

-- every lent element, with one row or byte to spare in each table
example-lent : called example [] [] true (room 13 8 3 28 4 62) ≡ record {
  reply = Ok (record { order = Endianness.Little; version = None; license = 3; sections = 3; programs = 1; functions = 2; maps = 1; relocations = 0; bytes = 61 });
  lent = record {
    sections = 3 ∷ 4 ∷ 3 ∷ 4 ∷ 7 ∷ 5 ∷ 1 ∷ 16 ∷ 12 ∷ 3 ∷ 2 ∷ 8 ∷ 0 ∷ [];
    programs = 15 ∷ 4 ∷ 6 ∷ 0 ∷ 0 ∷ 2 ∷ 0 ∷ 0 ∷ [];
    functions = row_of_numbers 1 0 0 19 6 29 16 ∷ row_of_numbers 2 0 0 25 4 45 8 ∷ row_of_numbers 0 0 0 0 0 0 0 ∷ [];
    maps = 53 ∷ 4 ∷ 3 ∷ 6 ∷ 0 ∷ 57 ∷ 4 ∷ 2 ∷ 4 ∷ 4 ∷ 1 ∷ 0 ∷ 0 ∷ 0 ∷ replicate 14 0;
    relocations = 0 ∷ 0 ∷ 0 ∷ 0 ∷ [];
    bytes = ascii "GPL.bss.textxdppasshelperpass" ++ (183 ∷ replicate 7 0 ++ (149 ∷ replicate 7 0 ++ (149 ∷ replicate 7 0))) ++ ascii ".bss" ++ replicate 5 0;
  };
}
unfolding called
example-lent = refl

-- 'a longer one prints `refused 1 0 0`'
longer-text : listed (room 0 0 0 0 0 0) (replicate 65537 0) ≡ lines ("refused 1 0 0" ∷ [])
unfolding listed
longer-text = refl

symbol-text : listed (room 100 100 10 100 100 1000) (deposit 0 (text 7 "xdp" (1 ∷ []) ∷ []) (func 40 7 "p" 0 2 ∷ []) []) ≡ lines ("refused 10 7 40" ∷ [])
unfolding listed
symbol-text = refl

-- numbers of every length, a licence and a version, names that are empty
other_text : listed (room 100 100 10 100 100 1000)
    (deposit 1
    (plain_section 1 "license" (77 ∷ 73 ∷ 84 ∷ 0 ∷ [])
    ∷ plain_section 2 "version" (0 ∷ 0 ∷ 1 ∷ 44 ∷ [])
    ∷ at_address 18446744073709551608 (text 10 ".text" (149 ∷ 0 ∷ 0 ∷ 0 ∷ 0 ∷ 0 ∷ 0 ∷ 0 ∷ []))
    ∷ plain_section 4294967294 ".data" (1 ∷ 2 ∷ 3 ∷ [])
    ∷ [])
    (func 3 10 "" 18446744073709551608 8 ∷ [])
    [])
    ≡ lines ("license MIT" ∷ "version 300" ∷ "function 10 18446744073709551608 1 " ∷ "map .data 4294967294 3 3" ∷ [])
unfolding listed
other_text = refl
