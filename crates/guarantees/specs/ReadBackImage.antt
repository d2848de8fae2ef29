-- What is asked of a catalogue that is read back from its image; proofs/ReadBackImage.antt reads it back.
use Rattle.std.specs.Prelude.{◌≡◌, ℤ, pos, negsuc, None, Option, Some}
use Rattle.std.proofs.Math.Path.{refl}
use Prim.Native.Nat.{ℕ, ◌<◌}
use Rattle.std.proofs.Math.ListN.{length}
use Rattle.model.specs.Bytes.{◌∈◌}
use Rattle.model.specs.declared.SymbolIndex.{SymbolIndex}
use Rattle.model.specs.declared.EbpfSectionKind.{EbpfSectionKind as Kind}
use Rattle.model.specs.declared.BpfInsn.{BpfInsn}
use Rattle.model.specs.SectionKind.{kind_number}
use Rattle.model.specs.Catalogue.{Function, Map, Catalogue}
use Rattle.model.specs.ReadBack.{kind_from}

pub kind-back : (k : Kind) → kind_from (kind_number k) ≡ k
unfolding kind_from
kind-back Kind.Undefined = refl
kind-back Kind.Maps = refl
kind-back Kind.BtfMaps = refl
kind-back Kind.Program = refl
kind-back Kind.Data = refl
kind-back Kind.Rodata = refl
kind-back Kind.Bss = refl
kind-back Kind.Text = refl
kind-back Kind.Btf = refl
kind-back Kind.BtfExt = refl
kind-back Kind.License = refl
kind-back Kind.Version = refl

-- ---- what is asked of a catalogue

-- a signed number of so many bits
abbrev pub Within : ℕ → ℤ → Type 0
Within half (pos n) = n < half
Within half (negsuc n) = n < half

-- 'signed 16-bit offset, signed 32-bit immediate'
pub record Ranged (i : BpfInsn) : Type 0 where
  pub off : Within 32768 i.off
  pub imm : Within 2147483648 i.imm

-- a symbol's index is at least 1
abbrev pub Numbered : Option SymbolIndex → Type 0
Numbered None = Unit {0}
Numbered (Some y) = 0 < y.0

pub record Sound (c : Catalogue) : Type 0 where
  pub code : (f : Function) → f ∈ c.functions → (i : BpfInsn) → i ∈ f.code → Ranged i
  pub symbols : (m : Map) → m ∈ c.maps → Numbered m.symbol
  -- 'seven words'
  pub words : (m : Map) → m ∈ c.maps → length m.def.words ≡ 7
