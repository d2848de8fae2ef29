-- Numbers 4 to 7 of the licence and the version, by the section's record, and where the licence stands.
use Rattle.model.specs.declared.VersionError.{VersionError}
use Rattle.model.specs.declared.LicenseError.{LicenseError}
use Rattle.std.specs.Prelude.{◌≡◌, true, false, List, ℕ, ◌-◌, None, Option, Result, Some}
use Rattle.std.proofs.Math.Path.{refl}
use Rattle.object_view.specs.declared.View.{View}
use Rattle.model.specs.declared.Extent.{Extent}
use Rattle.model.specs.declared.SectionIndex.{SectionIndex}
use Rattle.model.specs.declared.SectionRecord.{SectionRecord}
use Rattle.model.specs.declared.Endianness.{Endianness}
use Rattle.model.specs.declared.Refusal.{Refusal}
use Rattle.model.specs.Bytes.{ascii, maybe}
use Rattle.model.specs.Object.{Section}
use Rattle.model.specs.Symbols.{first_named}
use Rattle.model.specs.LicenceVersion.{parse_license, license_number, parse_version, version_number}
use Rattle.model.specs.Refusals.{no_symbol, refuse, of_number, untargeted, reloc_refusal, licence_refusal, version_refusal}
use Rattle.records.specs.View.{section_at, data_in}
use Rattle.object.specs.View.{section_from, object_in}
use Rattle.parse_first.specs.Named.{number_named}

-- refused for a section, with that number if there is one
abbrev pub numbered : SectionIndex → Option ℕ → Option Refusal
numbered i None = None
numbered i (Some n) = refuse true n i no_symbol 0

module _ (d t : List ℕ) (v : View) where
  -- the refusals of the object's licence and version
  abbrev pub licence_refused : Option Refusal
  licence_refused = maybe (first_named (ascii "license") (object_in d t v).sections) None licence_refusal

  abbrev pub version_refused : Option Refusal
  version_refused = maybe (first_named (ascii "version") (object_in d t v).sections) None (version_refusal v.order)

  module _ (s : SectionRecord) where
    abbrev section : Section
    section = section_from d t v s

    module _ (u : untargeted section.relocs ≡ true) where
      pub licence-four : licence_refusal section ≡ numbered s.index (Some 4)
      unfolding licence_refusal reloc_refusal section_from
      licence-four = rw u

      pub version-four : (e : Endianness) → version_refusal e section ≡ numbered s.index (Some 4)
      unfolding version_refusal reloc_refusal section_from
      version-four e = rw u

    module _ (u : untargeted section.relocs ≡ false) where
      pub licence-parsed : (p : Result ℕ LicenseError) → parse_license section.bytes ≡ p → licence_refusal section ≡ numbered s.index (license_number p)
      unfolding licence_refusal reloc_refusal section_from
      licence-parsed p q = rw (u, q) (go (license_number p))
        where
          go : (o : Option ℕ) → of_number section o ≡ numbered s.index o
          go None = refl
          go (Some n) = refl

      pub version-parsed : (e : Endianness) (p : Result (Option ℕ) VersionError) → parse_version e section.bytes ≡ p
          → version_refusal e section ≡ numbered s.index (version_number p)
      unfolding version_refusal reloc_refusal section_from
      version-parsed e p q = rw (u, q) (go (version_number p))
        where
          go : (o : Option ℕ) → of_number section o ≡ numbered s.index o
          go None = refl
          go (Some n) = refl

  -- ---- where the licence stands

  -- section i's data without its last byte
  abbrev pub license_in : ℕ → Extent
  license_in i = record { at = (section_at d t v i).bytes.at; length = (section_at d t v i).bytes.length - 1 }

  unfoldable pub license_at : Option Extent
  license_at = maybe (number_named d t v (ascii "license")) None (λ i. Some (license_in i))

  -- its bytes
  abbrev pub license_bytes : Option Extent → List ℕ
  license_bytes None = ascii "GPL"
  license_bytes (Some e) = data_in d v e
