-- A walk over a licence's bytes: k of them are passed, and none is zero.
use Rattle.model.specs.declared.LicenseError.{LicenseError}
use Rattle.std.proofs.Common.{◌≡◌, refl, false, List, ℕ, ◌+◌, ◌-◌, ◌^◌, ◌<◌, ◌≤◌, get_or, Err, Ok, sym, ap, ◌∙◌, arith}
use Rattle.model.specs.LicenceVersion.{has_zero, parse_license}
use Rattle.stream.specs.declared.Run.{Run}
use Rattle.stream.specs.Stream.{byte_at, bytes_at, gap-small}
use Rattle.stream.specs.Run.{run_at, skipped, run-at, run_room, run-byte, run-next}
use Rattle.license.specs.Zeros.{zero-free, license-short, license-zero, license-closed, license-open}

pub record Walk (d : List ℕ) (gap p k : ℕ) (r : Run) : Type 0 where
  pub stands : r ≡ run_at gap (p + k)
  pub free : has_zero (bytes_at d gap p k) ≡ false

pub begins : (d : List ℕ) (gap p : ℕ) (r : Run) → r ≡ run_at gap p → Walk d gap p 0 r
unfolding bytes_at has_zero
begins d gap p r e = let f : p + 0 ≡ p = omega arith in record { stands = rw f e; free = refl }

pub short : (d : List ℕ) (gap p n : ℕ) → n < 2 → parse_license (bytes_at d gap p n) ≡ (Err LicenseError.InvalidLicense)
short d gap p n h = license-short d gap p n h

module _ {d : List ℕ} {gap p k : ℕ} {r : Run} (w : Walk d gap p k r) where
  pub fits : gap ≤ 4 → p + k < 2 ^ 63 → (1 ≤ r.room) × (1 ≤ 508) × (r.at < 2 ^ 63 + 2 ^ 62)
  fits g h =
      let at = ap (λ (s : Run). s.at) w.stands ∙ run-at gap (p + k) in
      let room = ap (λ (s : Run). s.room) w.stands ∙ run_room gap (p + k) in
      omega (arith, at, room, gap-small (p + k) gap g)

  byte : get_or d r.at 0 ≡ byte_at d gap (p + k)
  byte = run-byte d gap (p + k) r w.stands

  pub goes_on : (s : Run) → (get_or d r.at 0 ≡ 0 → ⊥) → s ≡ skipped gap 1 r → Walk d gap p (k + 1) s
  goes_on s n e = record {
    stands = e ∙ run-next gap p k r w.stands;
    free = zero-free d gap p k w.free (λ z. n (byte ∙ z));
  }

  module _ (n : ℕ) (h : 2 ≤ n) where
    pub meets_zero : k < n - 1 → get_or d r.at 0 ≡ 0 → parse_license (bytes_at d gap p n) ≡ (Err LicenseError.InvalidLicense)
    meets_zero l e = license-zero d gap p n h k l (sym byte ∙ e)

    module _ (all : k ≡ n - 1) where
      none : has_zero (bytes_at d gap p (n - 1)) ≡ false
      none = rw all at w.free

      pub closed : get_or d r.at 0 ≡ 0 → parse_license (bytes_at d gap p n) ≡ Ok (n - 1)
      closed e = license-closed d gap p n h none (rw all at (sym byte ∙ e))

      pub open_end : (get_or d r.at 0 ≡ 0 → ⊥) → parse_license (bytes_at d gap p n) ≡ (Err LicenseError.MissingLicenseNullTerminator)
      open_end e = license-open d gap p n h none (λ z. e (rw all at byte ∙ z))
