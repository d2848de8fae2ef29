-- The zeros of a licence in a stream: before its last byte, and there.
use Rattle.model.specs.declared.LicenseError.{LicenseError}
use Rattle.std.specs.Prelude.{◌≡◌, Bool, true, false, cond, ◌||◌, not, List, ℕ, zero, suc, ◌+◌, ◌-◌, ◌<◌, ◌≤◌, eqb, take, Err, Ok}
use Rattle.std.proofs.Common.{ap, ◌∙◌, add-one, le_of_suc-le-suc, not-suc-le-zero, eq-eqb, ne_eqb, lt-ltb, le-ltb, arith}
use Rattle.std.proofs.Math.Bool.{or-false, or-true, or_assoc}
use Rattle.model.specs.LicenceVersion.{has_zero, parse_license}
use Rattle.stream.specs.Stream.{byte_at, bytes_at, length-bytes}
use Rattle.stream.specs.Laws.{take-bytes}

-- a zero among m + 1 bytes is among the first m or the last
zero-last : (d : List ℕ) (gap p m : ℕ) → has_zero (bytes_at d gap p (suc m)) ≡ (has_zero (bytes_at d gap p m) || eqb (byte_at d gap (p + m)) 0)
unfolding bytes_at has_zero
zero-last d gap p zero = let e : p + 0 ≡ p = omega arith in rw (or-false, e)
zero-last d gap p (suc m) =
    let e : p + 1 + m ≡ p + suc m = omega arith in
    ap (λ (t : Bool). eqb (byte_at d gap p) 0 || t) (zero-last d gap (p + 1) m) ∙ rw (e, or_assoc)

-- byte k of m bytes is a zero
pub zero_here : (d : List ℕ) (gap p m k : ℕ) → k < m → byte_at d gap (p + k) ≡ 0 → has_zero (bytes_at d gap p m) ≡ true
unfolding bytes_at has_zero
zero_here d gap p zero k h e = absurd (not-suc-le-zero h)
zero_here d gap p (suc m) zero h e = let f : p + 0 ≡ p = omega arith in rw (eq-eqb _ _ (rw f at e))
zero_here d gap p (suc m) (suc k) h e =
    let f : p + suc k ≡ p + 1 + k = omega arith in
    rw (zero_here d gap (p + 1) m k (le_of_suc-le-suc h) (rw f at e), or-true)

module _ (d : List ℕ) (gap p : ℕ) where
  -- no zero among k bytes, nor behind them
  pub zero-free : (k : ℕ) → has_zero (bytes_at d gap p k) ≡ false → (byte_at d gap (p + k) ≡ 0 → ⊥) → has_zero (bytes_at d gap p (k + 1)) ≡ false
  zero-free k f e = ap (λ (m : ℕ). has_zero (bytes_at d gap p m)) (add-one k) ∙ zero-last d gap p k ∙ rw (f, ne_eqb _ _ e)

  pub license-short : (n : ℕ) → n < 2 → parse_license (bytes_at d gap p n) ≡ (Err LicenseError.InvalidLicense)
  unfolding parse_license
  license-short n h = rw (length-bytes, lt-ltb n 2 h)

  module _ (n : ℕ) (h : 2 ≤ n) where
    license-long : parse_license (bytes_at d gap p n)
        ≡ cond (has_zero (bytes_at d gap p (n - 1))) (Err LicenseError.InvalidLicense)
        (cond (not (has_zero (bytes_at d gap p (n - 1)) || eqb (byte_at d gap (p + (n - 1))) 0)) (Err LicenseError.MissingLicenseNullTerminator)
        (Ok (n - 1)))
    unfolding parse_license
    license-long =
        let t : take (n - 1) (bytes_at d gap p n) ≡ bytes_at d gap p (n - 1) = take-bytes d gap p n (n - 1) (omega arith) in
        let e : n ≡ suc (n - 1) = omega arith in
        let z : has_zero (bytes_at d gap p n) ≡ (has_zero (bytes_at d gap p (n - 1)) || eqb (byte_at d gap (p + (n - 1))) 0) =
        ap (λ (k : ℕ). has_zero (bytes_at d gap p k)) e ∙ zero-last d gap p (n - 1)
        in
        rw (length-bytes d gap p n, le-ltb n 2 h, t, z)

    pub license-zero : (k : ℕ) → k < n - 1 → byte_at d gap (p + k) ≡ 0 → parse_license (bytes_at d gap p n) ≡ (Err LicenseError.InvalidLicense)
    license-zero k l e = license-long ∙ rw (zero_here d gap p (n - 1) k l e)

    module _ (f : has_zero (bytes_at d gap p (n - 1)) ≡ false) where
      pub license-closed : byte_at d gap (p + (n - 1)) ≡ 0 → parse_license (bytes_at d gap p n) ≡ Ok (n - 1)
      license-closed e = license-long ∙ rw (f, eq-eqb _ _ e)

      pub license-open : (byte_at d gap (p + (n - 1)) ≡ 0 → ⊥) → parse_license (bytes_at d gap p n) ≡ (Err LicenseError.MissingLicenseNullTerminator)
      license-open e = license-long ∙ rw (f, ne_eqb _ _ e)
