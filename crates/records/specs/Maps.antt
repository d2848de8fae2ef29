-- What a map is made from, and the number that stands for it: a section's record number, or a symbol's counted on from the sections.
use Rattle.std.specs.Prelude.{◌≡◌, Bool, cond, List, ℕ, ◌+◌, ◌-◌, ◌<◌, ◌≤◌}
use Rattle.std.proofs.Math.Path.{refl}
use Rattle.std.proofs.Math.Bool.{true, false}
use native.Mathlib.Omega.{arith}
use borrow.Author.Tests.{lt-ltb, le-ltb, ltb-true, ltb-false}
use Rattle.std.proofs.Math.Dec.{ltb}
use Rattle.model.specs.declared.Extent.{Extent}
use Rattle.object_view.specs.declared.View.{View}
use Rattle.records.specs.declared.MapSource.{MapSource}
use Rattle.records.specs.View.{section_at, symbol_at}

abbrev pub map_number_of : ℕ → MapSource → ℕ
map_number_of sections (MapSource.Section i) = i
map_number_of sections (MapSource.Symbol j) = sections + j

unfoldable pub map_source_of : ℕ → ℕ → MapSource
map_source_of sections n = cond (ltb n sections) (MapSource.Section n) (MapSource.Symbol (n - sections))

module _ (sections : ℕ) where
  -- a source of an object with so many sections
  abbrev pub SourceIn : MapSource → Type 0
  SourceIn (MapSource.Section i) = i < sections
  SourceIn (MapSource.Symbol j) = Unit {0}

  -- ---- from a source to its number and back

  pub number_source : (s : MapSource) → SourceIn s → map_source_of sections (map_number_of sections s) ≡ s
  unfolding map_source_of
  number_source (MapSource.Section i) l = rw (lt-ltb i sections l)
  number_source (MapSource.Symbol j) l =
      let e : sections + j - sections ≡ j = omega arith in
      rw (le-ltb (sections + j) sections (omega arith), e)

  module _ (n : ℕ) where
    pub source_in : SourceIn (map_source_of sections n)
    unfolding map_source_of
    source_in = go (ltb n sections) refl
      where
        go : (b : Bool) → ltb n sections ≡ b → SourceIn (cond b (MapSource.Section n) (MapSource.Symbol (n - sections)))
        go true e = ltb-true n sections e
        go false e = tt

    pub source-number : map_number_of sections (map_source_of sections n) ≡ n
    unfolding map_source_of
    source-number = go (ltb n sections) refl
      where
        go : (b : Bool) → ltb n sections ≡ b → map_number_of sections (cond b (MapSource.Section n) (MapSource.Symbol (n - sections))) ≡ n
        go true e = refl
        go false e = let l : sections ≤ n = ltb-false n sections e in omega arith

    -- ---- what a source says of the number

    pub section-below : (i : ℕ) → map_source_of sections n ≡ MapSource.Section i → i < sections
    section-below i e = rw e at source_in

    pub of-section : (i : ℕ) → map_source_of sections n ≡ MapSource.Section i → i ≡ n
    of-section i e = rw e at source-number

-- ---- its name

module _ (d t : List ℕ) (v : View) where
  abbrev pub source_name : MapSource → Extent
  source_name (MapSource.Section i) = (section_at d t v i).name
  source_name (MapSource.Symbol j) = (symbol_at d t v j).name

  unfoldable pub map_name_at : ℕ → Extent
  map_name_at n = source_name (map_source_of v.sections n)
