-- Records by number, through a view. Nothing above `records` unfolds these.
use Rattle.std.specs.Prelude.{◌≡◌, List, ℕ, ◌+◌, ◌*◌, ◌≤◌}
use Rattle.std.proofs.Math.Path.{refl}
use Rattle.std.proofs.Common.{arith}
use Rattle.model.specs.declared.Extent.{Extent}
use Rattle.model.specs.declared.Head.{Head}
use Rattle.model.specs.declared.SectionRecord.{SectionRecord}
use Rattle.model.specs.declared.SymbolRecord.{SymbolRecord}
use Rattle.model.specs.declared.RelocationRecord.{RelocationRecord}
use Rattle.model.specs.Deposit.{byte_order, section_record, symbol_record, relocation_record}
use Rattle.stream.specs.Stream.{bytes_at}
use Rattle.object_view.specs.declared.Form.{Form}
use Rattle.object_view.specs.declared.View.{View}
use Rattle.records.specs.Records.{symbols_at, relocations_at, names_at, data_at, deposit_section, deposit_symbol, deposit_relocation}
use Rattle.elf_records.specs.Elf.{elf_section, elf_symbol, elf_relocation}

abbrev pub by_form : {A : Type 0} → Form → A → A → A
by_form Form.Deposit x y = x
by_form Form.Elf x y = y

abbrev pub gap_of : View → ℕ
gap_of v = by_form v.form 4 0

pub gap-most : (v : View) → gap_of v ≤ 4
gap-most v = go v.form
  where
    go : (f : Form) → by_form f 4 0 ≤ 4
    go Form.Deposit = omega arith
    go Form.Elf = omega arith

module _ (d t : List ℕ) (v : View) where
  unfoldable pub section_at : ℕ → SectionRecord
  section_at i = by_form v.form (section_record (bytes_at d 4 (v.at.sections + 48 * i) 48)) (elf_section d t v i)

  unfoldable pub symbol_at : ℕ → SymbolRecord
  symbol_at i = by_form v.form (symbol_record (bytes_at d 4 (v.at.symbols + 40 * i) 40)) (elf_symbol d t v i)

  unfoldable pub relocation_at : ℕ → RelocationRecord
  relocation_at i = by_form v.form (relocation_record (bytes_at d 4 (v.at.relocations + 16 * i) 16)) (elf_relocation d t v i)

  -- by form
  module _ (e : v.form ≡ Form.Deposit) (i : ℕ) where
    pub section-deposit : section_at i ≡ section_record (bytes_at d 4 (v.at.sections + 48 * i) 48)
    unfolding section_at
    section-deposit = rw e

    pub symbol-deposit : symbol_at i ≡ symbol_record (bytes_at d 4 (v.at.symbols + 40 * i) 40)
    unfolding symbol_at
    symbol-deposit = rw e

    pub relocation-deposit : relocation_at i ≡ relocation_record (bytes_at d 4 (v.at.relocations + 16 * i) 16)
    unfolding relocation_at
    relocation-deposit = rw e

  module _ (e : v.form ≡ Form.Elf) (i : ℕ) where
    pub section-elf : section_at i ≡ elf_section d t v i
    unfolding section_at
    section-elf = rw e

    pub symbol-elf : symbol_at i ≡ elf_symbol d t v i
    unfolding symbol_at
    symbol-elf = rw e

    pub relocation-elf : relocation_at i ≡ elf_relocation d t v i
    unfolding relocation_at
    relocation-elf = rw e

-- the bytes of a name and of data
module _ (d : List ℕ) (v : View) where
  abbrev pub name_in : Extent → List ℕ
  name_in e = bytes_at d (gap_of v) (v.at.names + e.at) e.length

  abbrev pub data_in : Extent → List ℕ
  data_in e = bytes_at d (gap_of v) (v.at.bytes + e.at) e.length

-- ---- a deposit's view

unfoldable pub deposit_view : Head → View
deposit_view h =
    record {
      form = Form.Deposit;
      order = byte_order h.order;
      sections = h.sections;
      symbols = h.symbols;
      relocations = h.relocations;
      at = record { sections = 32; symbols = symbols_at h; relocations = relocations_at h; names = names_at h; bytes = data_at h };
      strings = record { sections = 0; symbols = 0 };
    }

module _ (d t : List ℕ) (h : Head) (i : ℕ) where
  pub deposit-section : section_at d t (deposit_view h) i ≡ deposit_section d i
  unfolding section_at deposit_section deposit_view
  deposit-section = refl

  pub deposit-symbol : symbol_at d t (deposit_view h) i ≡ deposit_symbol d h i
  unfolding symbol_at deposit_symbol deposit_view
  deposit-symbol = refl

  pub deposit-relocation : relocation_at d t (deposit_view h) i ≡ deposit_relocation d h i
  unfolding relocation_at deposit_relocation deposit_view
  deposit-relocation = refl
