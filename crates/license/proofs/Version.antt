-- The version's number, as std reads it, and what it answers.
use Rattle.std.proofs.Common.{◌≡◌, List, ℕ, w32, ap, ◌∙◌, Err, None, Ok, Some, arith}
use Rattle.std.specs.Int.{from_le_bytes, from_be_bytes}
use Rattle.model.specs.declared.Endianness.{Endianness}
use Rattle.model.specs.declared.VersionError.{VersionError}
use Rattle.model.specs.Bytes.{little}
use Rattle.model.specs.LicenceVersion.{number, parse_version}
use Rattle.stream.specs.Stream.{bytes_at}
use Rattle.license.specs.Four.{version-other, version-any, version-told}

module _ (d : List ℕ) (gap p : ℕ) where
  pub little_number : from_le_bytes w32 (bytes_at d gap p 4) ≡ number Endianness.Little (bytes_at d gap p 4)
  unfolding number little bytes_at
  little_number = omega arith

  pub big_number : from_be_bytes w32 (bytes_at d gap p 4) ≡ number Endianness.Big (bytes_at d gap p 4)
  unfolding number little bytes_at
  big_number = omega arith

  module _ (order : Endianness) (n : ℕ) where
    pub other : (n ≡ 4 → ⊥) → parse_version order (bytes_at d gap p n) ≡ (Err VersionError.InvalidKernelVersion)
    other h = version-other d gap p order n h

    pub any : n ≡ 4 → number order (bytes_at d gap p 4) ≡ 0xFFFFFFFE → parse_version order (bytes_at d gap p n) ≡ Ok None
    any h e = version-any d gap p order n h (rw h e)

    pub told : n ≡ 4 → (number order (bytes_at d gap p 4) ≡ 0xFFFFFFFE → ⊥)
        → parse_version order (bytes_at d gap p n) ≡ Ok (Some (number order (bytes_at d gap p 4)))
    told h e =
        version-told d gap p order n h (λ f. e (rw h at f)) ∙ ap (λ (k : ℕ). Ok (Some (number order (bytes_at d gap p k)))) h
