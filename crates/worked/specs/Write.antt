-- Deposits written out from their parts, for the worked cases: names and data are laid one after the other, blocks are closed with their checks.
use Rattle.std.specs.Prelude.{List, [], ◌∷◌, ◌++◌, ℕ, zero, suc, ◌+◌, ◌-◌, ◌*◌, ◌/◌, length, take, drop, replicate}
use Prim.Native.String.{String}
use Rattle.model.specs.Bytes.{ascii, each, little_bytes as le}

pub record Sec : Type 0 where
  pub index : ℕ
  pub mark : ℕ
  pub name : List ℕ
  pub address : ℕ
  pub size : ℕ
  pub bytes : List ℕ
  pub first : ℕ
  pub count : ℕ

pub record Sym : Type 0 where
  pub index : ℕ
  pub section : ℕ
  pub name : List ℕ
  pub address : ℕ
  pub size : ℕ
  pub kind : ℕ
  pub definition : ℕ

pub record Rel : Type 0 where
  pub offset : ℕ
  pub symbol : ℕ
  pub size : ℕ

-- a section with the text mark, and one without, of the size of its data, at address 0
abbrev pub text : ℕ → String → List ℕ → Sec
text i n d = record { index = i; mark = 1; name = ascii n; address = 0; size = length d; bytes = d; first = 0; count = 0 }

abbrev pub plain_section : ℕ → String → List ℕ → Sec
plain_section i n d = record { index = i; mark = 0; name = ascii n; address = 0; size = length d; bytes = d; first = 0; count = 0 }

-- a section of another size than its data
abbrev pub sized_section : ℕ → String → ℕ → List ℕ → Sec
sized_section i n z d = record { index = i; mark = 0; name = ascii n; address = 0; size = z; bytes = d; first = 0; count = 0 }

abbrev pub at_address : ℕ → Sec → Sec
at_address a s = record { index = s.index; mark = s.mark; name = s.name; address = a; size = s.size; bytes = s.bytes; first = s.first; count = s.count }

abbrev pub relocated : ℕ → ℕ → Sec → Sec
relocated f n s = record { index = s.index; mark = s.mark; name = s.name; address = s.address; size = s.size; bytes = s.bytes; first = f; count = n }

-- a defined text symbol, and a data symbol: index, section, name, address, size
abbrev pub func : ℕ → ℕ → String → ℕ → ℕ → Sym
func i s n a z = record { index = i; section = s; name = ascii n; address = a; size = z; kind = 1; definition = 1 }

abbrev pub global : ℕ → ℕ → String → ℕ → ℕ → Sym
global i s n a z = record { index = i; section = s; name = ascii n; address = a; size = z; kind = 2; definition = 1 }

-- 'absent'
abbrev pub absent : ℕ
absent = 4294967295

abbrev pub reloc : ℕ → ℕ → ℕ → Rel
reloc o y z = record { offset = o; symbol = y; size = z }

-- each record with the places of its name and its data
unfoldable pub section_bytes : ℕ → ℕ → List Sec → List ℕ
section_bytes n d [] = []
section_bytes n d (s ∷ ss) =
    le 4 s.index
    ++ (le 4 s.mark
    ++ (le 4 n
    ++ (le 4 (length s.name)
    ++ (le 8 s.address
    ++ (le 8 s.size
    ++ (le 4 d
    ++ (le 4 (length s.bytes)
    ++ (le 4 s.first
    ++ (le 4 s.count
    ++ section_bytes (n + length s.name) (d + length s.bytes) ss)))))))))

unfoldable pub symbol_bytes : ℕ → List Sym → List ℕ
symbol_bytes n [] = []
symbol_bytes n (y ∷ ys) =
    le 4 y.index
    ++ (le 4 y.section
    ++ (le 4 n
    ++ (le 4 (length y.name)
    ++ (le 8 y.address
    ++ (le 8 y.size
    ++ (y.kind ∷ y.definition ∷ (replicate 6 0 ++ symbol_bytes (n + length y.name) ys)))))))

abbrev pub reloc_bytes : Rel → List ℕ
reloc_bytes r = le 8 r.offset ++ (le 4 r.symbol ++ (r.size ∷ replicate 3 0))

abbrev pub stream_from : ℕ → List Sec → List Sym → List Rel → List ℕ
stream_from order ss ys rs =
    let names : List ℕ = each (λ s. s.name) ss ++ each (λ y. y.name) ys in
    let bytes : List ℕ = each (λ s. s.bytes) ss in
    le 4 order
    ++ (le 4 (length ss)
    ++ (le 4 (length ys)
    ++ (le 4 (length rs)
    ++ (le 4 (length names)
    ++ (le 4 (length bytes)
    ++ (replicate 8 0
    ++ (section_bytes 0 0 ss
    ++ (symbol_bytes (length (each (λ s. s.name) ss)) ys
    ++ (each reloc_bytes rs
    ++ (names ++ bytes))))))))))

-- the sum over a block, whose first byte counts k times
unfoldable pub sum : ℕ → List ℕ → ℕ
sum k [] = 0
sum k (b ∷ bs) = k * b + sum (k + 1) bs

abbrev pub padded : List ℕ → List ℕ
padded s = take 508 s ++ replicate (508 - length s) 0

-- so many blocks, the first of them with that number
unfoldable pub blocks_from : ℕ → ℕ → List ℕ → List ℕ
blocks_from zero n s = []
blocks_from (suc m) n s = let b : List ℕ = padded s in b ++ (le 4 (sum 1 b + n) ++ blocks_from m (n + 1) (drop 508 s))

unfoldable pub blocks : List ℕ → List ℕ
blocks s = blocks_from ((length s + 507) / 508) 1 s

unfoldable pub deposit : ℕ → List Sec → List Sym → List Rel → List ℕ
deposit order ss ys rs = blocks (stream_from order ss ys rs)
