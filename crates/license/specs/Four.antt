-- The version's four bytes in a stream.
use Rattle.model.specs.declared.VersionError.{VersionError}
use Rattle.std.specs.Prelude.{◌≡◌, List, ℕ, Err, None, Ok, Some}
use Rattle.std.proofs.Common.{eq-eqb, ne_eqb}
use Rattle.model.specs.declared.Endianness.{Endianness}
use Rattle.model.specs.LicenceVersion.{number, version_in, parse_version}
use Rattle.stream.specs.Stream.{bytes_at, length-bytes}

module _ (d : List ℕ) (gap p : ℕ) (order : Endianness) (n : ℕ) where
  pub version-other : (n ≡ 4 → ⊥) → parse_version order (bytes_at d gap p n) ≡ (Err VersionError.InvalidKernelVersion)
  unfolding parse_version
  version-other h = rw (length-bytes, ne_eqb n 4 h)

  module _ (h : n ≡ 4) where
    pub version-any : number order (bytes_at d gap p n) ≡ 0xFFFFFFFE
        → parse_version order (bytes_at d gap p n) ≡ Ok None
    unfolding parse_version version_in
    version-any e = rw (length-bytes, eq-eqb n 4 h, eq-eqb _ _ e)

    pub version-told : (number order (bytes_at d gap p n) ≡ 0xFFFFFFFE → ⊥)
        → parse_version order (bytes_at d gap p n) ≡ Ok (Some (number order (bytes_at d gap p n)))
    unfolding parse_version version_in
    version-told e = rw (length-bytes, eq-eqb n 4 h, ne_eqb _ _ e)
