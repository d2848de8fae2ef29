-- Fields, names and data read where they lie in the file.
use Rattle.std.specs.Prelude.{◌≡◌, refl, Bool, false, cond, ◌&&◌, ◌||◌, List, [], ℕ, ◌+◌, ◌-◌, ◌%◌, ◌<◌, ◌≤◌, eqb, length, get_or, drop}
use Rattle.std.proofs.Common.{sym, ap, ◌∙◌, arith, get_or-take, get_or-drop}
use Rattle.std.proofs.Math.Bool.{true}
use borrow.Author.Tests.{leb-true, le-leb, eqb-true}
use Rattle.std.proofs.Math.Dec.{leb}
use Rattle.lists.specs.Tests.{both_true}
use Rattle.model.specs.declared.Endianness.{Endianness}
use Rattle.model.specs.declared.Extent.{Extent}
use Rattle.model.specs.Bytes.{part, u8, inside}
use Rattle.model.specs.LicenceVersion.{number, has_zero}
use Rattle.model.specs.Deposit.{most_bytes, extent, all}
use Rattle.model.specs.Elf.{field, Header, is_type, file_data, string_at}
use Rattle.model.specs.ElfRefusals.{header_ok, string_ok}
use Rattle.stream.specs.Stream.{bytes_at}
use Rattle.stream.specs.Laws.{bytes-plain}
use Rattle.elf_laws.specs.Places.{part-part, name-place}
use Rattle.elf_records.specs.Elf.{field_at, data_range}
use Rattle.elf_object.specs.Inside.{StringsIn}

-- ---- fields

module _ (f : List ℕ) (p n : ℕ) where
  field-part : (o : Endianness) (k w : ℕ) → k + w ≤ n → field o f (p + k) w ≡ field o (part f p n) k w
  field-part o k w h = ap (number o) (sym (part-part f p n k w h))

  -- the first field of a record of n bytes
  pub field-start : (o : Endianness) (w : ℕ) → w ≤ n → field o f p w ≡ field o (part f p n) 0 w
  field-start o w h = let z : p + 0 ≡ p = omega arith in ap (λ (q : ℕ). field o f q w) (sym z) ∙ field-part o 0 w (omega arith)

  module _ (fits : p + n ≤ length f) where
    -- a field of a record in the file
    pub field_in : (o : Endianness) (k w : ℕ) → k + w ≤ n → field_at o f (p + k) w ≡ field o (part f p n) k w
    unfolding field_at
    field_in o k w h =
        let l : leb (p + k + w) (length f) ≡ true = le-leb (p + k + w) (length f) (omega arith) in
        rw l (field-part o k w h)

    pub field-first : (o : Endianness) (w : ℕ) → w ≤ n → field_at o f p w ≡ field o (part f p n) 0 w
    field-first o w h = let z : p + 0 ≡ p = omega arith in ap (λ (q : ℕ). field_at o f q w) (sym z) ∙ field_in o 0 w (omega arith)

    pub byte-in : (k : ℕ) → k < n → get_or f (p + k) 0 ≡ u8 (part f p n) k
    byte-in k h = sym (get_or-take n (drop p f) k 0 h ∙ get_or-drop p f k 0)

-- ---- names

-- a name, read in the file: its string table begins at start, and it at a place there
pub record NameRead (f s : List ℕ) (start at : ℕ) : Type 0 where
  pub short : length (string_at s at) ≤ 65535
  pub uncut : (start + at) % 4294967296 ≡ start + at
  pub ends : start + at + length (string_at s at) ≤ length f
  pub bytes : bytes_at f 0 (start + at) (length (string_at s at)) ≡ string_at s at

pub name-read : (f s : List ℕ) (start end at : ℕ) → length f ≤ 16777216 → StringsIn f s start end → string_ok (drop at s) ≡ true → NameRead f s start at
unfolding string_ok
name-read f s start end at small i ok =
    let (z, r) = both_true (has_zero (drop at s)) (leb (length (string_at s at)) 65535 && all (λ b. leb b 127) (string_at s at)) ok in
    let b : leb (length (string_at s at)) 65535 ≡ true = (both_true (leb (length (string_at s at)) 65535) (all (λ b. leb b 127) (string_at s at)) r).0 in
    let (n, l) = name-place f start (end - start) at (rw i.bytes at z) in
    let q : s ≡ part f start (end - start) = i.bytes in
    let n₁ : string_at s at ≡ part f (start + at) (length (string_at s at)) = rw q n in
    let l₁ : at + length (string_at s at) < end - start = rw q l in
    let e : start + at + length (string_at s at) ≤ length f = omega (arith, i.inside, i.rises) in
    record {
      short = leb-true _ _ b;
      uncut = omega arith;
      ends = e;
      bytes = bytes-plain f (start + at) (length (string_at s at)) e ∙ sym n₁;
    }

-- ---- data

-- data, read in the file
pub record DataRead (f s : List ℕ) (e : Extent) : Type 0 where
  pub short : e.length ≤ 16777216
  pub ends : e.at + e.length ≤ length f
  pub bytes : bytes_at f 0 e.at e.length ≡ s

pub header-size-small : (n : ℕ) (h : Header) → header_ok n h ≡ true → h.size ≤ 16777216
unfolding header_ok
header-size-small n h e = leb-true _ _ (both_true (leb h.size most_bytes) (is_type 8 h || (eqb h.size 0 || inside h.offset h.size n)) e).0

pub data-read : (f : List ℕ) (h : Header) → length f ≤ 16777216 → header_ok (length f) h ≡ true → DataRead f (file_data f h) (data_range h.kind h.offset h.size)
unfolding header_ok data_range file_data bytes_at
data-read f h small ok =
    go (is_type 8 h) (eqb h.size 0) refl
    (both_true (leb h.size most_bytes) (is_type 8 h || (eqb h.size 0 || inside h.offset h.size (length f))) ok).1
  where
    none : (l : List ℕ) → l ≡ [] → DataRead f l (extent 0 0)
    none l e = record { short = omega arith; ends = omega arith; bytes = sym e }

    go : (a b : Bool) → eqb h.size 0 ≡ b → (a || (b || inside h.offset h.size (length f))) ≡ true
        → DataRead f (cond a [] (part f h.offset h.size))
        (cond (a || b) (extent 0 0) (extent (h.offset % 4294967296) (h.size % 4294967296)))
    go true b e r = none [] refl
    go false true e r = let z : h.size ≡ 0 = eqb-true _ _ e in none (part f h.offset h.size) (ap (part f h.offset) z)
    go false false e r =
        let l : h.offset + h.size ≤ length f = leb-true _ _ r in
        let a : h.offset % 4294967296 ≡ h.offset = omega arith in
        let b : h.size % 4294967296 ≡ h.size = omega arith in
        rw (a, b) (record { short = omega arith; ends = l; bytes = bytes-plain f h.offset h.size l })
