-- Number 25 byte by byte: a field's bytes as far as they are present.
use Rattle.std.specs.Prelude.{◌≡◌, refl, Bool, ◌&&◌, ℕ, zero, suc, ◌-◌, ◌<◌, ◌≤◌, eqb, length, take, set, replicate}
use Rattle.std.specs.Cmp.Lexicographic.{pointwise}
use Rattle.std.proofs.Common.{ap, ◌∙◌, not-suc-le-zero, le_of_suc-le-suc, mod-eq_of_lt, add-one, arith, length-set, length-take-le, take-suc-set}
use mathlib.Core.List.{List, [], ◌∷◌, reverse, reverse-cons}
use Rattle.std.proofs.Math.Nat.{div-eq_of_lt}
use Rattle.std.proofs.lemmas.List.{length-replicate, replicate-append-replicate, take-replicate}
use Rattle.model.specs.declared.Endianness.{Endianness}
use Rattle.model.specs.Bytes.{part, starts_with, little_bytes}
use Rattle.model.specs.ElfRefusals.{field_bytes, field_is, first_seven}

-- the sixth byte tells the order
unfoldable pub order_mark : Endianness → ℕ
order_mark Endianness.Little = 1
order_mark Endianness.Big = 2

-- the lowest of w bytes stands here
unfoldable pub low_place : Endianness → ℕ → ℕ
low_place Endianness.Little w = 0
low_place Endianness.Big w = w - 1

-- what 25 asks of the first 64 bytes
unfoldable pub first_bytes_ok : List ℕ → Endianness → Bool
first_bytes_ok f o =
    starts_with (take 7 f) (first_seven o)
    && (field_is o 2 1 (part f 16 2)
    && (field_is o 2 247 (part f 18 2)
    && field_is o 2 64 (part f 58 2)))

pub first_seven_mark : (o : Endianness) → first_seven o ≡ 127 ∷ 69 ∷ 76 ∷ 70 ∷ 2 ∷ order_mark o ∷ 1 ∷ []
unfolding order_mark
first_seven_mark Endianness.Little = refl
first_seven_mark Endianness.Big = refl

-- ---- what is present is compared element by element

pub starts_pointwise : (xs ys : List ℕ) → starts_with xs ys ≡ pointwise eqb xs (take (length xs) ys)
unfolding starts_with
starts_pointwise [] ys = refl
starts_pointwise (x ∷ xs) [] = refl
starts_pointwise (x ∷ xs) (y ∷ ys) = ap (λ (b : Bool). eqb x y && b) (starts_pointwise xs ys)

-- ---- the bytes of a number below 256 are zeros, but for the lowest

little-zero : (n : ℕ) → little_bytes n 0 ≡ replicate n 0
unfolding little_bytes
little-zero zero = refl
little-zero (suc n) = ap (λ (l : List ℕ). 0 ∷ l) (little-zero n)

little-small : (n x : ℕ) → x < 256 → little_bytes (suc n) x ≡ x ∷ replicate n 0
unfolding little_bytes
little-small n x h = rw (mod-eq_of_lt h, div-eq_of_lt h, little-zero n)

reverse-replicate : (n a : ℕ) → reverse (replicate n a) ≡ replicate n a
reverse-replicate zero a = refl
reverse-replicate (suc n) a = reverse-cons a (replicate n a) ∙ rw (reverse-replicate n a, replicate-append-replicate n 1 a, add-one)

pub low_below : (o : Endianness) (w : ℕ) → 0 < w → low_place o w < w
unfolding low_place
low_below Endianness.Little w h = h
low_below Endianness.Big w h = omega arith

-- of m zeros the first w are taken, once the lowest byte is stored
pub lone-byte : (o : Endianness) (w m x : ℕ) → 0 < w → w ≤ m → x < 256 → take w (set (replicate m 0) (low_place o w) x) ≡ field_bytes o w x
unfolding field_bytes low_place
lone-byte o zero m x h k l = absurd (not-suc-le-zero h)
lone-byte o (suc n) zero x h k l = absurd (not-suc-le-zero k)
lone-byte Endianness.Little (suc n) (suc m) x h k l = rw (little-small n x l, take-replicate {X = ℕ} n m 0 (le_of_suc-le-suc k))
lone-byte Endianness.Big (suc n) (suc m) x h k l =
    let e : suc n - 1 ≡ n = omega arith in
    let g : n < length {A = ℕ} (replicate (suc m) 0) = rw length-replicate k in
    rw (
      little-small n x l,
      reverse-cons x (replicate n 0),
      reverse-replicate n 0,
      e,
      take-suc-set (replicate (suc m) 0) n x g,
      take-replicate {X = ℕ} n (suc m) 0 (omega arith),
    )

pub length-lone : (w m i x : ℕ) → w ≤ m → length (take w (set (replicate m 0) i x)) ≡ w
length-lone w m i x h = length-take-le w (set (replicate m 0) i x) (rw (length-set, length-replicate) h)
