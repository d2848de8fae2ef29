-- What the arms of a `match` on a section's kind say of it, as its number.
use Rattle.std.specs.Prelude.{◌≡◌, ℕ, [], ◌∷◌, false, get_or}
use Rattle.std.proofs.Common.{refl, sym, ap, ◌∙◌, ne_eqb, ◌⊎◌, inl, inr}
use types.Run.{OneOf}
use denote.Enum.Declared.{tag_of}
use Rattle.model.specs.contracts.EbpfSectionKind.{the_type}
use Rattle.model.specs.declared.EbpfSectionKind.{EbpfSectionKind as Kind}
use Rattle.model.specs.SectionKind.{kind_number, is_kind}

abbrev kind_at : ℕ → Kind
kind_at n =
    get_or (Kind.Undefined ∷ Kind.Maps ∷ Kind.BtfMaps ∷ Kind.Program ∷ Kind.Data ∷ Kind.Rodata ∷ Kind.Bss ∷ Kind.Text ∷ Kind.Btf ∷ Kind.BtfExt ∷ Kind.License
    ∷ Kind.Version ∷ []) n Kind.Undefined

kind-at : (k : Kind) → kind_at (kind_number k) ≡ k
kind-at Kind.Undefined = refl
kind-at Kind.Maps = refl
kind-at Kind.BtfMaps = refl
kind-at Kind.Program = refl
kind-at Kind.Data = refl
kind-at Kind.Rodata = refl
kind-at Kind.Bss = refl
kind-at Kind.Text = refl
kind-at Kind.Btf = refl
kind-at Kind.BtfExt = refl
kind-at Kind.License = refl
kind-at Kind.Version = refl

-- a kind that is none of a `match`
pub not-kind : (m k : Kind) → (k ≡ m → ⊥) → is_kind m k ≡ false
not-kind m k h = ne_eqb (kind_number m) (kind_number k) (λ e. h (sym (kind-at k) ∙ ap kind_at (sym e) ∙ kind-at m))

-- the arm of `.bss`, `.data` and `.rodata`, by the tags
pub data-tags : (k : Kind) → (k ≡ Kind.Bss) ⊎ ((k ≡ Kind.Data) ⊎ (k ≡ Kind.Rodata)) → OneOf (6 ∷ 4 ∷ 5 ∷ []) (tag_of the_type k)
data-tags k (inl e) = inl (rw e)
data-tags k (inr (inl e)) = inr (inl (rw e))
data-tags k (inr (inr e)) = inr (inr (rw e))
