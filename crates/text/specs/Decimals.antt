-- The fewest digits that hold a number are its decimal.
use Rattle.std.specs.Prelude.{◌≡◌, refl, Bool, true, false, ℕ, zero, suc, ◌+◌, ◌-◌, ◌/◌, ◌%◌, ◌^◌, ◌<◌, ◌≤◌, ltb}
use Rattle.std.proofs.Common.{not-suc-le-zero, le_of_suc-le-suc, pow-suc, arith, lt-ltb, le-ltb, ltb-true, ltb-false}
use Rattle.std.proofs.Math.Nat.{pow-le-pow_right}
use Rattle.io.specs.Digits.{hex_digit_ascii, last_digits, IsDigitCount}
use Rattle.model.specs.Listing.{digits, decimal}

glyph-is : (n : ℕ) → hex_digit_ascii (n % 10) ≡ 48 + n % 10
glyph-is n = let h : n % 10 < 10 = omega arith in rw (lt-ltb (n % 10) 10 h)

power-least : (k : ℕ) → 10 ≤ 10 ^ suc k
power-least zero = omega (arith, pow-suc 10 zero)
power-least (suc k) = omega (arith, power-least k, pow-suc 10 (suc k))

spelled : (m k n : ℕ) → suc k ≤ m → n < 10 ^ suc k → (0 < k → 10 ^ k ≤ n) → last_digits 10 (suc k) n ≡ digits m n
unfolding digits
spelled zero k n room most least = absurd (not-suc-le-zero room)
spelled (suc m) zero n room most least =
    let h : n < 10 = omega (arith, pow-suc 10 zero) in
    let e : n % 10 ≡ n = omega arith in
    rw (lt-ltb n 10 h, glyph-is n, e)
spelled (suc m) (suc k) n room most least =
    let l : 10 ^ suc k ≤ n = least (omega arith) in
    let h : 10 ≤ n = omega (arith, power-least k) in
    let i : last_digits 10 (suc k) (n / 10) ≡ digits m (n / 10) =
    spelled m k (n / 10) (le_of_suc-le-suc room) (omega (arith, pow-suc 10 (suc k))) (λ p. omega (arith, pow-suc 10 k))
    in
    rw (le-ltb n 10 h, glyph-is n, i)

-- twenty are enough
room : (k n : ℕ) → n < 2 ^ 64 → IsDigitCount 10 1 n k → k ≤ 20
room k n h f = go (ltb 20 k) refl
  where
    go : (b : Bool) → ltb 20 k ≡ b → k ≤ 20
    go true e =
        let l : 20 < k = ltb-true _ _ e in
        let p : 1 < k = omega arith in
        let q : 20 ≤ k - 1 = omega arith in
        let ten : 0 < 10 = omega arith in
        let r : 10 ^ 20 ≤ 10 ^ (k - 1) = pow-le-pow_right ten q in
        let s : 10 ^ (k - 1) ≤ n = f.2 p in
        let no : ⊥ = omega arith in absurd no
    go false e = ltb-false _ _ e

pub decimal-is : (k n : ℕ) → n < 2 ^ 64 → IsDigitCount 10 1 n k → last_digits 10 k n ≡ decimal n
decimal-is zero n h f = let no : ⊥ = omega arith in absurd no
decimal-is (suc k) n h f =
    let e : suc k - 1 ≡ k = omega arith in
    spelled 20 k n (room (suc k) n h f) f.1 (λ p. let q : 1 < suc k = omega arith in rw e at (f.2 q))
