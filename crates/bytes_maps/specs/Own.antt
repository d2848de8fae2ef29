-- The bytes that a map owns, by its number: those of its section's data, or zeros.
use Rattle.std.specs.Prelude.{◌≡◌, Bool, List, [], ℕ, ◌+◌, ◌<◌, ◌≤◌, length, replicate}
use Rattle.std.proofs.Math.Path.{refl}
use Rattle.std.proofs.Common.{ap, ◌∙◌, arith, length-take-le}
use Rattle.std.proofs.Math.Bool.{true, false, cond}
use Rattle.std.proofs.lemmas.List.{length-replicate}
use Rattle.model.specs.declared.Extent.{Extent}
use Rattle.object_view.specs.declared.View.{View}
use Rattle.model.specs.declared.EbpfSectionKind.{EbpfSectionKind as Kind}
use Rattle.model.specs.Contents.{data_map, legacy_map}
use Rattle.model.specs.Lent.{map_own}
use Rattle.model.specs.SectionKind.{is_kind, kind_of}
use Rattle.stream.specs.Stream.{length-bytes}
use Rattle.records.specs.declared.MapSource.{MapSource}
use Rattle.records.specs.View.{gap_of, section_at, data_in}
use Rattle.records.specs.Maps.{map_source_of, SourceIn, source_in}
use Rattle.records.specs.Readable.{DataFits, Readable}
use Rattle.catalogue_laws.specs.FunctionsMaps.{map_of}
use Rattle.object.specs.View.{section_from, section_in, symbol_in}
use Rattle.catalogue_numbers.specs.Numbers.{map_at}
use Rattle.bytes_maps.specs.declared.Own.{Own}

module _ (d t : List ℕ) (v : View) where
  abbrev pub own_bytes : ℕ → List ℕ
  own_bytes n = map_own (map_at d t v n)

  abbrev pub source_own : MapSource → Own
  source_own (MapSource.Section i) =
      cond (is_kind Kind.Bss (kind_of (section_in d t v i))) (Own.Zeros (section_at d t v i).size) (Own.Bytes (section_at d t v i).bytes)
  source_own (MapSource.Symbol j) = Own.Nothing

  unfoldable pub own_of : ℕ → Own
  own_of n = source_own (map_source_of v.sections n)

  abbrev pub bytes_in : Own → List ℕ
  bytes_in Own.Nothing = []
  bytes_in (Own.Zeros n) = replicate n 0
  bytes_in (Own.Bytes e) = data_in d v e

  pub own_is : (n : ℕ) → own_bytes n ≡ bytes_in (own_of n)
  unfolding own_of data_map legacy_map section_from
  own_is n = go (map_source_of v.sections n)
    where
      of-section : (i : ℕ) (b : Bool) → cond b (replicate (section_at d t v i).size 0) (data_in d v (section_at d t v i).bytes)
          ≡ bytes_in (cond b (Own.Zeros (section_at d t v i).size) (Own.Bytes (section_at d t v i).bytes))
      of-section i true = refl
      of-section i false = refl

      go : (s : MapSource) → map_own (map_of v.order (section_in d t v) v.sections (symbol_in d t v) v.symbols s) ≡ bytes_in (source_own s)
      go (MapSource.Section i) = of-section i (is_kind Kind.Bss (kind_of (section_in d t v i)))
      go (MapSource.Symbol j) = refl

  -- ---- what it owns is known

  module _ (n : ℕ) where
    pub nothing-bytes : Own.Nothing ≡ own_of n → own_bytes n ≡ []
    nothing-bytes e = own_is n ∙ rw (← e)

    pub zeros-bytes : (m : ℕ) → Own.Zeros m ≡ own_of n → own_bytes n ≡ replicate m 0
    zeros-bytes m e = own_is n ∙ rw (← e)

    pub zeros-length : (m : ℕ) → Own.Zeros m ≡ own_of n → length (own_bytes n) ≡ m
    zeros-length m e = ap length (zeros-bytes m e) ∙ length-replicate m 0

    pub data-bytes : (x : Extent) → Own.Bytes x ≡ own_of n → own_bytes n ≡ data_in d v x
    data-bytes x e = own_is n ∙ rw (← e)

    pub data-length : (x : Extent) → Own.Bytes x ≡ own_of n → length (own_bytes n) ≡ x.length
    data-length x e = ap length (data-bytes x e) ∙ length-bytes d (gap_of v) (v.at.bytes + x.at) x.length

    -- what holds of nothing, and of what each section's map can own, holds of it
    own-cases : (P : Own → Type 0) → P Own.Nothing
        → ((i : ℕ) → i < v.sections → P (Own.Zeros (section_at d t v i).size) × P (Own.Bytes (section_at d t v i).bytes)) → P (own_of n)
    unfolding own_of
    own-cases P none some = go (map_source_of v.sections n) (source_in v.sections n)
      where
        of-section : (i : ℕ) (b : Bool) → i < v.sections → P (cond b (Own.Zeros (section_at d t v i).size) (Own.Bytes (section_at d t v i).bytes))
        of-section i true l = (some i l).0
        of-section i false l = (some i l).1

        go : (s : MapSource) → SourceIn v.sections s → P (source_own s)
        go (MapSource.Section i) l = of-section i (is_kind Kind.Bss (kind_of (section_in d t v i))) l
        go (MapSource.Symbol j) l = none

    -- of a view that is readable
    module _ (r : Readable d t v) where
      pub zeros-small : (m : ℕ) → Own.Zeros m ≡ own_of n → m ≤ 16777216
      zeros-small m =
          own-cases (λ w. Own.Zeros m ≡ w → m ≤ 16777216) (λ q. let z : ◌≡◌ {A = ℕ} 0 1 = cc in absurd (omega arith))
          (λ i l. (λ q. let f : m ≡ (section_at d t v i).size = cc in rw f (r.section-size i l), λ q. let z : ◌≡◌ {A = ℕ} 0 1 = cc in absurd (omega arith)))

      pub data-fits : (x : Extent) → Own.Bytes x ≡ own_of n → DataFits d v x
      data-fits x =
          own-cases (λ w. Own.Bytes x ≡ w → DataFits d v x) (λ q. let z : ◌≡◌ {A = ℕ} 0 1 = cc in absurd (omega arith))
          (λ i l. (λ q. let z : ◌≡◌ {A = ℕ} 0 1 = cc in absurd (omega arith), λ q. let f : x ≡ (section_at d t v i).bytes = cc in rw f (r.section-data i l)))

-- what is known of the bytes, by what a map owns
pub ruleset owned = (nothing-bytes, zeros-bytes, zeros-length, zeros-small, data-bytes, data-length, length-take-le)
