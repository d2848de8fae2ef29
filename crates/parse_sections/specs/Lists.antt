-- What one section lists for each table, by its kind.
use Rattle.std.specs.Prelude.{◌≡◌, Bool, ℕ, ◌+◌, ◌^◌, ◌<◌, ◌≤◌, length, get_or}
use Rattle.std.proofs.Math.Path.{refl}
use Rattle.std.proofs.Math.Bool.{true, false, cond}
use mathlib.Core.List.{List, [], ◌∷◌, map}
use Rattle.std.proofs.Common.{arith}
use Rattle.std.proofs.lemmas.List.{length-map}
use Rattle.model.specs.declared.EbpfSectionKind.{EbpfSectionKind as Kind}
use Rattle.model.specs.Contents.{is_data}
use Rattle.model.specs.SectionKind.{is_kind, kind_of}
use Rattle.object_view.specs.declared.View.{View}
use Rattle.catalogue_laws.specs.FunctionsMaps.{function_numbers_in, maps_in}
use Rattle.catalogue_laws.specs.Groups.{LaidFrom}
use Rattle.catalogue_laws.specs.SectionsPrograms.{sections_in, programs_in}
use Rattle.records.specs.declared.MapSource.{MapSource}
use Rattle.records.specs.View.{section_at}
use Rattle.records.specs.Maps.{map_number_of}
use Rattle.object.specs.Group.{members_in}
use Rattle.object.specs.View.{section_in}
use Rattle.catalogue_numbers.specs.Numbers.{sections_from, programs_from, functions_from, maps_from}
use Rattle.parse_sections.specs.declared.Counts.{Counts}

-- section i itself
unfoldable pub sections_of : Kind → ℕ → List ℕ
sections_of k i = cond (is_kind Kind.BtfExt k) [] (i ∷ [])

-- the programs are its functions
unfoldable pub program_numbers_of : Kind → List ℕ → List ℕ
program_numbers_of k fs = cond (is_kind Kind.Program k) fs []

-- the maps, where its symbols are js
unfoldable pub map_numbers_of : ℕ → Kind → ℕ → List ℕ → List ℕ
map_numbers_of count k i js =
    cond (is_kind Kind.Maps k) (map (λ j. map_number_of count (MapSource.Symbol j)) js) (cond (is_data k) (map_number_of count (MapSource.Section i) ∷ []) [])

pub few-sections : (k : Kind) (i : ℕ) → length (sections_of k i) ≤ 1
unfolding sections_of
few-sections k i = go (is_kind Kind.BtfExt k)
  where
    go : (b : Bool) → length (cond b [] (i ∷ [])) ≤ 1
    go true = omega arith
    go false = omega arith

pub few-programs : (k : Kind) (fs : List ℕ) → length (program_numbers_of k fs) ≤ length fs
unfolding program_numbers_of
few-programs k fs = go (is_kind Kind.Program k)
  where
    go : (b : Bool) → length (cond b fs []) ≤ length fs
    go true = omega arith
    go false = omega arith

pub few-maps : (count : ℕ) (k : Kind) (i : ℕ) (js : List ℕ) → length (map_numbers_of count k i js) ≤ 1 + length js
unfolding map_numbers_of
few-maps count k i js = go (is_kind Kind.Maps k) (is_data k)
  where
    go : (b c : Bool) → length (cond b (map (λ j. map_number_of count (MapSource.Symbol j)) js) (cond c (map_number_of count (MapSource.Section i) ∷ []) [])) ≤ 1 + length js
    go true c = rw length-map (omega arith)
    go false true = omega arith
    go false false = omega arith

-- by number
module _ (d t : List ℕ) (v : View) (i : ℕ) where
  abbrev kind : Kind
  kind = kind_of (section_in d t v i)

  pub sections-by : sections_from d t v i ≡ sections_of kind i
  unfolding sections_in sections_of
  sections-by = refl

  pub programs-by : programs_from d t v i ≡ program_numbers_of kind (functions_from d t v i)
  unfolding programs_in function_numbers_in program_numbers_of
  programs-by = go _ _ (is_kind Kind.Program kind)
    where
      go : (ps fs : List ℕ) (b : Bool) → cond b ps [] ≡ cond b (cond b ps fs) []
      go ps fs true = refl
      go ps fs false = refl

  pub maps-by : maps_from d t v i ≡ map_numbers_of v.sections kind i (members_in d t v (section_at d t v i))
  unfolding maps_in map_numbers_of
  maps-by = refl

-- ---- the lists that it is appended to

-- n numbers stand in each list; group has its symbols, and functions its functions
pub record RoomFor (count : ℕ) (group sections programs functions maps : List ℕ) (n : Counts) : Type 0 where
  pub small : (k : ℕ) → k < length group → count + get_or group k 0 < 2 ^ 32
  pub for-section : n.sections < length sections
  pub for-programs : n.programs + length functions ≤ length programs
  pub for-functions : n.functions + length functions < 2 ^ 32
  pub for-maps : n.maps + length group < length maps

-- js are its symbols and fs its functions; r numbers stand in each list then, and licence and version stay
pub record Lists (count : ℕ) (k : Kind) (i : ℕ) (js fs : List ℕ) (n r : Counts) (s p o s₂ p₂ o₂ : List ℕ) : Type 0 where
  pub of-sections : LaidFrom n.sections r.sections (sections_of k i) s s₂
  pub of-programs : LaidFrom n.programs r.programs (program_numbers_of k fs) p p₂
  pub of-functions : r.functions ≡ n.functions + length fs
  pub of-maps : LaidFrom n.maps r.maps (map_numbers_of count k i js) o o₂
  pub of-license : r.license ≡ n.license
  pub of-version : r.version ≡ n.version
