-- Number 24 by the counts of the tables.
use Rattle.std.specs.Prelude.{◌≡◌, refl, Bool, true, false, ◌&&◌, ℕ, ◌*◌, ◌/◌, ◌<◌, ◌≤◌, length}
use Rattle.std.proofs.Common.{arith}
use borrow.Author.Tests.{leb-true, leb-false, le-leb, lt-leb}
use Rattle.std.proofs.Math.Dec.{leb}
use Rattle.lists.specs.Tests.{both_true}
use Rattle.model.specs.Catalogue.{Catalogue}
use Rattle.model.specs.Lent.{bytes_of, image_of, fits_in}
use Rattle.model.specs.declared.Room.{Room}
use Rattle.load_image.specs.Tables.{long-sections, long-programs, long-functions, long-maps, long-relocations}

image-bytes : (c : Catalogue) → (image_of c).bytes ≡ bytes_of c
unfolding image_of
image-bytes c = refl

-- by how many rows there is room for
abbrev pub fits_by : Room → ℕ → ℕ → ℕ → ℕ → ℕ → ℕ → Bool
fits_by r sections programs functions maps relocations bytes =
    leb sections (r.sections / 4)
    && (leb programs (r.programs / 7)
    && (leb functions r.functions
    && (leb maps (r.maps / 27)
    && (leb relocations (r.relocations / 4)
    && leb bytes r.bytes))))

by-fours : (n r : ℕ) → leb (n * 4) r ≡ leb n (r / 4)
by-fours n r = go (leb n (r / 4)) refl
  where
    go : (b : Bool) → leb n (r / 4) ≡ b → leb (n * 4) r ≡ b
    go true e = let q : n ≤ r / 4 = leb-true _ _ e in le-leb (n * 4) r (omega arith)
    go false e = let q : r / 4 < n = leb-false _ _ e in lt-leb (n * 4) r (omega arith)

by-sevens : (n r : ℕ) → leb (n * 7) r ≡ leb n (r / 7)
by-sevens n r = go (leb n (r / 7)) refl
  where
    go : (b : Bool) → leb n (r / 7) ≡ b → leb (n * 7) r ≡ b
    go true e = let q : n ≤ r / 7 = leb-true _ _ e in le-leb (n * 7) r (omega arith)
    go false e = let q : r / 7 < n = leb-false _ _ e in lt-leb (n * 7) r (omega arith)

by-maps : (n r : ℕ) → leb (n * 27) r ≡ leb n (r / 27)
by-maps n r = go (leb n (r / 27)) refl
  where
    go : (b : Bool) → leb n (r / 27) ≡ b → leb (n * 27) r ≡ b
    go true e = let q : n ≤ r / 27 = leb-true _ _ e in le-leb (n * 27) r (omega arith)
    go false e = let q : r / 27 < n = leb-false _ _ e in lt-leb (n * 27) r (omega arith)

pub fits-by : (r : Room) (c : Catalogue) → fits_in r (image_of c) ≡ fits_by r (length c.sections) (length c.programs) (length c.functions) (length c.maps) (length c.relocations) (length (bytes_of c))
unfolding fits_in
fits-by r c =
    let q₁ : leb (length (image_of c).sections) r.sections ≡ leb (length c.sections) (r.sections / 4) = rw (long-sections c) (by-fours (length c.sections) r.sections) in
    let q₂ : leb (length (image_of c).programs) r.programs ≡ leb (length c.programs) (r.programs / 7) = rw (long-programs c) (by-sevens (length c.programs) r.programs) in
    let q₃ : leb (length (image_of c).functions) r.functions ≡ leb (length c.functions) r.functions = rw (long-functions c) in
    let q₄ : leb (length (image_of c).maps) r.maps ≡ leb (length c.maps) (r.maps / 27) = rw (long-maps c) (by-maps (length c.maps) r.maps) in
    let q₅ : leb (length (image_of c).relocations) r.relocations ≡ leb (length c.relocations) (r.relocations / 4) = rw (long-relocations c) (by-fours (length c.relocations) r.relocations) in
    let q₆ : leb (length (image_of c).bytes) r.bytes ≡ leb (length (bytes_of c)) r.bytes = rw (image-bytes c) in
    λ k. q₁ k && (q₂ k && (q₃ k && (q₄ k && (q₅ k && q₆ k))))

-- what fits, table by table
pub record Spacious (c : Catalogue) (r : Room) : Type 0 where
  pub sections : length c.sections * 4 ≤ r.sections
  pub programs : length c.programs * 7 ≤ r.programs
  pub functions : length c.functions ≤ r.functions
  pub maps : length c.maps * 27 ≤ r.maps
  pub relocations : length c.relocations * 4 ≤ r.relocations
  pub bytes : length (bytes_of c) ≤ r.bytes

pub spacious : (c : Catalogue) (r : Room) → fits_in r (image_of c) ≡ true → Spacious c r
unfolding fits_in
spacious c r e =
    let (t₁, u₁) = both_true _ _ e in
    let (t₂, u₂) = both_true _ _ u₁ in
    let (t₃, u₃) = both_true _ _ u₂ in
    let (t₄, u₄) = both_true _ _ u₃ in
    let (t₅, t₆) = both_true _ _ u₄ in
    let q₁ : length (image_of c).sections ≤ r.sections = leb-true _ _ t₁ in
    let q₂ : length (image_of c).programs ≤ r.programs = leb-true _ _ t₂ in
    let q₃ : length (image_of c).functions ≤ r.functions = leb-true _ _ t₃ in
    let q₄ : length (image_of c).maps ≤ r.maps = leb-true _ _ t₄ in
    let q₅ : length (image_of c).relocations ≤ r.relocations = leb-true _ _ t₅ in
    let q₆ : length (image_of c).bytes ≤ r.bytes = leb-true _ _ t₆ in
    record {
      sections = rw (long-sections c) at q₁;
      programs = rw (long-programs c) at q₂;
      functions = rw (long-functions c) at q₃;
      maps = rw (long-maps c) at q₄;
      relocations = rw (long-relocations c) at q₅;
      bytes = rw (image-bytes c) at q₆;
    }
