-- The kind of a name by its first bytes.
use Rattle.std.proofs.Common.{◌≡◌, List, ◌∷◌, ℕ, ◌+◌, ◌-◌, ◌≤◌, ◌<◌, ap, ◌∙◌, arith}
use Rattle.model.specs.declared.EbpfSectionKind.{EbpfSectionKind as Kind}
use Rattle.model.specs.SectionKind.{from_name}
use Rattle.stream.specs.Stream.{byte_at, bytes_at, length-bytes}
use Rattle.section_kind.specs.Names as names

module _ (d : List ℕ) (gap p n : ℕ) where
  pub short : n < 4 → from_name (bytes_at d gap p n) ≡ Kind.Undefined
  short h = names.short (bytes_at d gap p n) (rw length-bytes h)

  pub first_byte : (a : ℕ) → 4 ≤ n → byte_at d gap p ≡ a → bytes_at d gap p n ≡ a ∷ bytes_at d gap (p + 1) (n - 1)
  first_byte a h e = rw e at (names.bytes-cons d gap p n (omega arith))

  pub two_bytes : (a b : ℕ) → 4 ≤ n → byte_at d gap p ≡ a → byte_at d gap (p + 1) ≡ b
      → bytes_at d gap p n ≡ a ∷ b ∷ bytes_at d gap (p + 1 + 1) (n - 1 - 1)
  two_bytes a b h e f = first_byte a h e ∙ ap (λ (s : List ℕ). a ∷ s) (rw f at (names.bytes-cons d gap (p + 1) (n - 1) (omega arith)))

  pub no_first : (a : ℕ) → 4 ≤ n → byte_at d gap p ≡ a → (a ≡ 108 → ⊥) → (a ≡ 118 → ⊥) → (a ≡ 109 → ⊥) → (a ≡ 46 → ⊥)
      → from_name (bytes_at d gap p n) ≡ Kind.Undefined
  no_first a h e l v m dot = rw (first_byte a h e) (names.no-first a _ l v m dot)

  pub no_second : (b : ℕ) → 4 ≤ n → byte_at d gap p ≡ 46 → byte_at d gap (p + 1) ≡ b
      → (b ≡ 109 → ⊥) → (b ≡ 116 → ⊥) → (b ≡ 98 → ⊥) → (b ≡ 100 → ⊥) → (b ≡ 114 → ⊥) → (b ≡ 66 → ⊥)
      → from_name (bytes_at d gap p n) ≡ Kind.Undefined
  no_second b h e f m t s a r B = rw (two_bytes 46 b h e f) (names.no_second b _ m t s a r B)
