-- The laws of the licence and the version, by the section's number (`specs/LicenceVersion.antt`).
use Rattle.model.specs.declared.VersionError.{VersionError}
use Rattle.std.specs.Prelude.{◌≡◌, Bool, true, false, cond, List, ℕ, ◌+◌, ◌-◌, eqb, length, Err, None, Ok, Option, Some}
use Rattle.std.proofs.Math.Path.{refl, sym}
use Rattle.std.proofs.Common.{◌∙◌, arith}
use Rattle.std.proofs.Math.ListN.{take}
use Rattle.object_view.specs.declared.View.{View}
use Rattle.model.specs.declared.Endianness.{Endianness}
use Rattle.model.specs.Bytes.{ascii, or_else, maybe}
use Rattle.model.specs.Object.{Section}
use Rattle.model.specs.LicenceVersion.{version_in, parse_version, version_number}
use Rattle.model.specs.Contents.{licence_of, version_of}
use Rattle.model.specs.Refusals.{of_section, of_number, untargeted, reloc_refusal, version_refusal}
use Rattle.stream.specs.Stream.{length-bytes}
use Rattle.stream.specs.Laws.{take-bytes}
use Rattle.records.specs.View.{gap_of, section_at}
use Rattle.object.specs.View.{section_from, section_in, object_in}
use Rattle.parse_first.specs.Named.{number_named}
use Rattle.parse_first.specs.LicenceVersion.{version_refused, license_in, license_at, license_bytes}
use Rattle.parse_first.proofs.NamedLaws.{made-of-named}

not-refused : (e : Endianness) (s : Section) → version_refusal e s ≡ None → parse_version e s.bytes ≡ Ok (version_in e s.bytes)
unfolding version_refusal reloc_refusal parse_version
not-refused e s f = go (untargeted s.relocs) (eqb (length s.bytes) 4) f
  where
    go : (u b : Bool)
        → or_else (of_section 4 s u) (of_number s (version_number (cond b (Ok (version_in e s.bytes)) (Err VersionError.InvalidKernelVersion)))) ≡ None
        → cond b (Ok (version_in e s.bytes)) (Err VersionError.InvalidKernelVersion) ≡ Ok (version_in e s.bytes)
    go u true g = refl
    go true false g = let z : ◌≡◌ {A = ℕ} 0 1 = cc in absurd (omega arith)
    go false false g = let z : ◌≡◌ {A = ℕ} 0 1 = cc in absurd (omega arith)

module _ (d t : List ℕ) (v : View) where
  -- ---- the version, by the section's number

  pub version-by-number : version_of (object_in d t v)
      ≡ maybe (number_named d t v (ascii "version")) None (λ i. version_in v.order (section_in d t v i).bytes)
  unfolding version_of object_in
  version-by-number = made-of-named d t v (ascii "version") None (λ s. version_in v.order s.bytes)

  -- where it is not refused, what is parsed is the version
  pub version-kept : (i : ℕ) → number_named d t v (ascii "version") ≡ Some i → version_refused d t v ≡ None
      → parse_version v.order (section_in d t v i).bytes ≡ Ok (version_in v.order (section_in d t v i).bytes)
  version-kept i e f =
      let e₁ = made-of-named d t v (ascii "version") None (version_refusal v.order) in
      let e₂ : version_refusal v.order (section_in d t v i) ≡ None = sym (e₁ ∙ rw e) ∙ f in
      not-refused v.order (section_in d t v i) e₂

  -- ---- the licence's bytes

  pub license-bytes : license_bytes d t v (license_at d t v) ≡ licence_of (object_in d t v)
  unfolding license_at licence_of section_from
  license-bytes =
      go (number_named d t v (ascii "license"))
      ∙ sym (made-of-named d t v (ascii "license") (ascii "GPL") (λ s. take (length s.bytes - 1) s.bytes))
    where
      go : (o : Option ℕ)
          → license_bytes d t v (maybe o None (λ i. Some (license_in d t v i)))
          ≡ maybe o (ascii "GPL") (λ i. take (length (section_in d t v i).bytes - 1) (section_in d t v i).bytes)
      go None = refl
      go (Some i) =
          let e = (section_at d t v i).bytes in
          rw (length-bytes d (gap_of v) (v.at.bytes + e.at) e.length) (sym (take-bytes d (gap_of v) (v.at.bytes + e.at) e.length (e.length - 1) (omega arith)))
