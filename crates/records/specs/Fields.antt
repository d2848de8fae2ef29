-- The fields of head and records, each a number at its own place.
use Rattle.std.specs.Prelude.{◌≡◌, List, ℕ, suc, ◌+◌, ◌/◌, ◌%◌, ◌<◌, ◌≤◌, get_or}
use Rattle.std.proofs.Math.Path.{sym, ap}
use Rattle.std.proofs.Common.{ap₂, ◌∙◌}
use native.Mathlib.Omega.{arith}
use Rattle.model.specs.Bytes.{part, little}
use Rattle.model.specs.Deposit.{head_of, extent, section_record, symbol_record, relocation_record}
use Rattle.stream.specs.Stream.{byte_at, bytes_at}
use Rattle.stream.specs.Laws.{get_or-bytes, part_bytes}
use Rattle.stream.specs.Fields.{little-first}
use Rattle.model.specs.declared.SectionIndex.{SectionIndex}
use Rattle.model.specs.declared.SymbolIndex.{SymbolIndex}
use Rattle.records.specs.Records.{extent_in, extent_at}

module _ (d : List ℕ) (gap p : ℕ) where
  -- a number of m bytes at k, of n
  num : (n k m : ℕ) → k + m ≤ n → little (part (bytes_at d gap p n) k m) ≡ little (bytes_at d gap (p + k) m)
  num n k m h = ap little (part_bytes d gap p n k m h)

  first : (n m : ℕ) → m ≤ n → little (part (bytes_at d gap p n) 0 m) ≡ little (bytes_at d gap p m)
  first n m h = num n 0 m (omega arith) ∙ ap (λ (q : ℕ). little (bytes_at d gap q m)) (omega arith)

  range : (n k : ℕ) → k + 8 ≤ n → extent (little (part (bytes_at d gap p n) k 4)) (little (part (bytes_at d gap p n) (k + 4) 4)) ≡ extent_at d gap (p + k)
  range n k h =
      ap₂ extent (num n k 4 (omega arith))
      (num n (k + 4) 4 (omega arith) ∙ ap (λ (q : ℕ). little (bytes_at d gap q 4)) (omega arith))

  pub section-fields : section_record (bytes_at d gap p 48) ≡ record {
    index = record { 0 = little (bytes_at d gap p 4) };
    mark = little (bytes_at d gap (p + 4) 4);
    name = extent_at d gap (p + 8);
    address = little (bytes_at d gap (p + 16) 8);
    size = little (bytes_at d gap (p + 24) 8);
    bytes = extent_at d gap (p + 32);
    relocations = extent_at d gap (p + 40);
  }
  unfolding section_record
  section-fields = λ i. record {
    index = record { 0 = first 48 4 (omega arith) i };
    mark = num 48 4 4 (omega arith) i;
    name = range 48 8 (omega arith) i;
    address = num 48 16 8 (omega arith) i;
    size = num 48 24 8 (omega arith) i;
    bytes = range 48 32 (omega arith) i;
    relocations = range 48 40 (omega arith) i;
  }

  -- the first byte of a number, and of the last eight bytes of a symbol the second
  module _ (small : (k : ℕ) → byte_at d gap k < 256) where
    low : (n : ℕ) → little (bytes_at d gap p (suc n)) % 256 ≡ byte_at d gap p
    low n = omega (arith, little-first d gap p n, small p)

    high : (n : ℕ) → little (bytes_at d gap p (suc n)) / 256 ≡ little (bytes_at d gap (p + 1) n)
    high n = omega (arith, little-first d gap p n, small p)

-- a byte at k, of n
byte : (d : List ℕ) (gap p n k : ℕ) → k < n → get_or (bytes_at d gap p n) k 0 ≡ byte_at d gap (p + k)
byte d gap p n k h = get_or-bytes d gap p n k h

module _ (d : List ℕ) (gap p : ℕ) (small : (k : ℕ) → byte_at d gap k < 256) where
  -- kind, definition and reserved bytes of a symbol are one number of eight bytes
  pub symbol-fields : (last : ℕ) → last ≡ little (bytes_at d gap (p + 32) 8) → symbol_record (bytes_at d gap p 40) ≡ record {
    index = record { 0 = little (bytes_at d gap p 4) };
    section = record { 0 = little (bytes_at d gap (p + 4) 4) };
    name = extent_at d gap (p + 8);
    address = little (bytes_at d gap (p + 16) 8);
    size = little (bytes_at d gap (p + 24) 8);
    kind = last % 256;
    definition = last / 256 % 256;
    reserved = last / 65536;
  }
  unfolding symbol_record
  symbol-fields last e =
      let e₁ : p + 32 + 1 ≡ p + 33 = omega arith in
      let e₂ : p + 33 + 1 ≡ p + 34 = omega arith in
      let h₁ : last / 256 ≡ little (bytes_at d gap (p + 33) 7) = rw (e, ← e₁) (high d gap (p + 32) small 7) in
      let h₂ : last / 65536 ≡ little (bytes_at d gap (p + 34) 6) = omega (arith, h₁, rw e₂ at (high d gap (p + 33) small 6)) in
      let k₀ : byte_at d gap (p + 32) ≡ last % 256 = rw e (sym (low d gap (p + 32) small 7)) in
      let k₁ : byte_at d gap (p + 33) ≡ last / 256 % 256 = rw h₁ (sym (low d gap (p + 33) small 6)) in
      λ i. record {
        index = record { 0 = first d gap p 40 4 (omega arith) i };
        section = record { 0 = num d gap p 40 4 4 (omega arith) i };
        name = range d gap p 40 8 (omega arith) i;
        address = num d gap p 40 16 8 (omega arith) i;
        size = num d gap p 40 24 8 (omega arith) i;
        kind = (byte d gap p 40 32 (omega arith) ∙ k₀) i;
        definition = (byte d gap p 40 33 (omega arith) ∙ k₁) i;
        reserved = (num d gap p 40 34 6 (omega arith) ∙ sym h₂) i;
      }

-- the head begins the stream
pub head-fields : (d : List ℕ) (gap : ℕ) → head_of (bytes_at d gap 0 32) ≡ record {
  order = little (bytes_at d gap 0 4);
  sections = little (bytes_at d gap 4 4);
  symbols = little (bytes_at d gap 8 4);
  relocations = little (bytes_at d gap 12 4);
  names = little (bytes_at d gap 16 4);
  bytes = little (bytes_at d gap 20 4);
  reserved = little (bytes_at d gap 24 8);
}
unfolding head_of
head-fields d gap = λ i. record {
  order = num d gap 0 32 0 4 (omega arith) i;
  sections = num d gap 0 32 4 4 (omega arith) i;
  symbols = num d gap 0 32 8 4 (omega arith) i;
  relocations = num d gap 0 32 12 4 (omega arith) i;
  names = num d gap 0 32 16 4 (omega arith) i;
  bytes = num d gap 0 32 20 4 (omega arith) i;
  reserved = num d gap 0 32 24 8 (omega arith) i;
}

-- ---- single fields, each read at its own place

abbrev pub section_index : ℕ → SectionIndex
section_index n = record { 0 = n }

abbrev pub symbol_index : ℕ → SymbolIndex
symbol_index n = record { 0 = n }

module _ (d : List ℕ) (gap p : ℕ) where
  pub section-index : (section_record (bytes_at d gap p 48)).index ≡ section_index (little (bytes_at d gap p 4))
  unfolding section_record
  section-index = ap section_index (first d gap p 48 4 (omega arith))

  pub section-name : (section_record (bytes_at d gap p 48)).name ≡ extent_at d gap (p + 8)
  unfolding section_record
  section-name = range d gap p 48 8 (omega arith)

  pub symbol-section : (symbol_record (bytes_at d gap p 40)).section ≡ section_index (little (bytes_at d gap (p + 4) 4))
  unfolding symbol_record
  symbol-section = ap section_index (num d gap p 40 4 4 (omega arith))

  pub symbol-name : (symbol_record (bytes_at d gap p 40)).name ≡ extent_at d gap (p + 8)
  unfolding symbol_record
  symbol-name = range d gap p 40 8 (omega arith)

  pub symbol-address : (symbol_record (bytes_at d gap p 40)).address ≡ little (bytes_at d gap (p + 16) 8)
  unfolding symbol_record
  symbol-address = num d gap p 40 16 8 (omega arith)

  pub relocation-offset : (relocation_record (bytes_at d gap p 16)).offset ≡ little (bytes_at d gap p 8)
  unfolding relocation_record
  relocation-offset = first d gap p 16 8 (omega arith)

  pub relocation-symbol : (relocation_record (bytes_at d gap p 16)).symbol ≡ symbol_index (little (bytes_at d gap (p + 8) 4))
  unfolding relocation_record
  relocation-symbol = ap symbol_index (num d gap p 16 8 4 (omega arith))

  pub extent-bytes : extent_in (bytes_at d gap p 8) ≡ extent_at d gap p
  extent-bytes = range d gap p 8 0 (omega arith) ∙ ap (extent_at d gap) (omega arith)
