-- What the arms of a `match` on a section's kind know of it.
use Rattle.std.specs.Prelude.{◌≡◌, refl, true, false, ◌||◌, not, List, [], ◌∷◌, ℕ, T, eqb}
use Rattle.std.proofs.Common.{inl, inr, ne_eqb}
use mir.Val.{has_key}
use types.Run.{OneOf, miss}
use denote.Enum.Declared.{tag_of}
use Rattle.model.specs.contracts.EbpfSectionKind.{the_type}
use Rattle.model.specs.declared.EbpfSectionKind.{EbpfSectionKind as Kind}
use Rattle.model.specs.Contents.{is_data}
use Rattle.model.specs.SectionKind.{kind_number, is_kind}

tag-is-number : (k : Kind) → tag_of the_type k ≡ kind_number k
tag-is-number Kind.Undefined = refl
tag-is-number Kind.Maps = refl
tag-is-number Kind.BtfMaps = refl
tag-is-number Kind.Program = refl
tag-is-number Kind.Data = refl
tag-is-number Kind.Rodata = refl
tag-is-number Kind.Bss = refl
tag-is-number Kind.Text = refl
tag-is-number Kind.Btf = refl
tag-is-number Kind.BtfExt = refl
tag-is-number Kind.License = refl
tag-is-number Kind.Version = refl

-- a kind with one of some numbers is none that has another
pub other-kind : (ks : List ℕ) (m k : Kind) → T (not (has_key ks (kind_number m))) → OneOf ks (tag_of the_type k) → is_kind m k ≡ false
other-kind ks m k h o = ne_eqb (kind_number m) (kind_number k) (λ e. miss ks (kind_number m) h (rw (tag-is-number k, ← e) at o))

data-number : (n : ℕ) → OneOf (6 ∷ 4 ∷ 5 ∷ []) n → (eqb 6 n || (eqb 4 n || eqb 5 n)) ≡ true
data-number n (inl e) = rw e
data-number n (inr (inl e)) = rw e
data-number n (inr (inr e)) = rw e

-- `.bss`, `.data` or `.rodata`
pub data-kind : (k : Kind) → OneOf (6 ∷ 4 ∷ 5 ∷ []) (tag_of the_type k) → is_data k ≡ true
data-kind k o = data-number (kind_number k) (rw (tag-is-number k) at o)
