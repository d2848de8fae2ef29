-- The licence's bytes, by where it stands.
use Rattle.std.proofs.Math.Path.{◌≡◌, refl}
use Rattle.std.proofs.Common.{sym, ap, ◌∙◌, le_trans}
use Rattle.std.specs.Prelude.{List, ℕ, ◌+◌, ◌-◌, ◌<◌, ◌≤◌, None, Option, Some}
use native.Mathlib.Omega.{arith}
use Rattle.std.proofs.Math.ListN.{length}
use Rattle.object_view.specs.declared.View.{View}
use Rattle.model.specs.declared.Extent.{Extent}
use Rattle.model.specs.Bytes.{ascii, maybe}
use Rattle.model.specs.Contents.{licence_of}
use Rattle.stream.specs.Stream.{place, length-bytes}
use Rattle.stream.specs.Laws.{place_mono}
use Rattle.records.specs.View.{gap_of, section_at, data_in}
use Rattle.object.specs.View.{object_in}
use Rattle.parse_first.specs.Named.{number_named}
use Rattle.parse_first.specs.LicenceVersion.{license_in, license_at, license_bytes}
use Rattle.parse_first.proofs.NamedLaws.{number-below}
use Rattle.parse_first.proofs.LicenceVersionLaws.{license-bytes}
use Rattle.records.specs.Readable.{Readable}

abbrev pub licence_length : Option Extent → ℕ
licence_length None = 3
licence_length (Some e) = e.length

module _ (d t : List ℕ) (v : View) where
  pub licence-gpl : None ≡ license_at d t v → licence_of (object_in d t v) ≡ ascii "GPL"
  licence-gpl e = sym (license-bytes d t v) ∙ ap (license_bytes d t v) (sym e)

  module _ (x : Extent) (e : Some x ≡ license_at d t v) where
    pub licence-stands : licence_of (object_in d t v) ≡ data_in d v x
    licence-stands = sym (license-bytes d t v) ∙ ap (license_bytes d t v) (sym e)

    pub licence-length : length (licence_of (object_in d t v)) ≡ x.length
    licence-length = ap length licence-stands ∙ length-bytes d (gap_of v) (v.at.bytes + x.at) x.length

    -- its range lies inside
    pub licence-placed : Readable d t v → (place (gap_of v) (v.at.bytes + x.at + x.length) ≤ length d) × (x.length ≤ 16777216)
    unfolding license_at
    licence-placed r = go (number_named d t v (ascii "license")) refl e
      where
        go : (o : Option ℕ) → number_named d t v (ascii "license") ≡ o → Some x ≡ maybe o None (λ i. Some (license_in d t v i))
            → (place (gap_of v) (v.at.bytes + x.at + x.length) ≤ length d) × (x.length ≤ 16777216)
        go None f g = let z : ◌≡◌ {A = ℕ} 0 1 = cc in absurd (omega arith)
        go (Some i) f g =
            let p : x.at ≡ (section_at d t v i).bytes.at = cc in
            let q : x.length ≡ (section_at d t v i).bytes.length - 1 = cc in
            let l : i < v.sections = number-below d t v (ascii "license") i f in
            let m : v.at.bytes + x.at + x.length ≤ v.at.bytes + (section_at d t v i).bytes.at + (section_at d t v i).bytes.length = omega arith in
            (le_trans (place_mono (gap_of v) (v.at.bytes + x.at + x.length) (v.at.bytes + (section_at d t v i).bytes.at + (section_at d t v i).bytes.length) m) (r.section-data i l).placed, omega (arith, (r.section-data i l).short))

  pub length-by-place : (l : Option Extent) → l ≡ license_at d t v → licence_length l ≡ length (licence_of (object_in d t v))
  length-by-place None e = sym (ap length (licence-gpl e))
  length-by-place (Some x) e = sym (licence-length x e)

  -- no licence is longer than 16 MiB
  pub licence-short : Readable d t v → length (licence_of (object_in d t v)) ≤ 16777216
  licence-short r = go (license_at d t v) refl
    where
      go : (l : Option Extent) → l ≡ license_at d t v → length (licence_of (object_in d t v)) ≤ 16777216
      go None e = rw (licence-gpl e) (omega arith)
      go (Some x) e = rw (licence-length x e) (licence-placed x e r).1
