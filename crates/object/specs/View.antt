-- What an object's records stand for: the sections and symbols of its object, by number.
use Rattle.std.specs.Prelude.{◌≡◌, refl, Bool, true, false, cond, ◌&&◌, not, List, [], ℕ, zero, suc, ◌+◌, eqb, ltb}
use Rattle.std.proofs.Common.{sym, arith, lt-ltb}
use Rattle.lists.specs.Tab.{tab}
use Rattle.object_view.specs.declared.View.{View}
use Rattle.model.specs.declared.SectionRecord.{SectionRecord}
use Rattle.model.specs.declared.SymbolRecord.{SymbolRecord}
use Rattle.model.specs.declared.SymbolKind.{SymbolKind}
use Rattle.model.specs.Bytes.{same}
use Rattle.model.specs.Object.{Reloc, Section, Symbol, Object}
use Rattle.model.specs.Symbols.{is_text, is_program}
use Rattle.model.specs.Deposit.{unless_none, reloc_of, symbol_kind}
use Rattle.stream.specs.Stream.{bytes_at}
use Rattle.catalogue_laws.specs.ByNumber.{is_defined_text}
use Rattle.catalogue_laws.specs.SectionsPrograms.{IndexesRising}
use Rattle.records.specs.View.{gap_of, name_in, data_in, section_at, symbol_at, relocation_at}
use Rattle.records.specs.Readable.{SectionsRise}

module _ (d t : List ℕ) (v : View) where
  unfoldable pub reloc_in : ℕ → Reloc
  reloc_in k = reloc_of (relocation_at d t v k)

  unfoldable pub section_from : SectionRecord → Section
  section_from r =
      record {
        index = r.index;
        text = eqb r.mark 1;
        name = name_in d v r.name;
        address = r.address;
        size = r.size;
        bytes = data_in d v r.bytes;
        relocs = tab (λ k. reloc_in (r.relocations.at + k)) r.relocations.length;
      }

  unfoldable pub symbol_from : SymbolRecord → Symbol
  symbol_from r =
      record {
        index = r.index;
        section = unless_none r.section.0 r.section;
        name = name_in d v r.name;
        address = r.address;
        size = r.size;
        kind = symbol_kind r.kind;
        definition = eqb r.definition 1;
      }

  abbrev pub section_in : ℕ → Section
  section_in i = section_from (section_at d t v i)

  abbrev pub symbol_in : ℕ → Symbol
  symbol_in j = symbol_from (symbol_at d t v j)

  unfoldable pub object_in : Object
  object_in = record { order = v.order; sections = tab section_in v.sections; symbols = tab symbol_in v.symbols }

  -- the indexes of the object's sections rise with those of the records
  pub rising : SectionsRise d t v → IndexesRising v.order section_in v.sections symbol_in v.symbols
  unfolding section_from
  rising rise = rise

-- ---- tests of a symbol, by its record alone

-- 'each text symbol with a name'
abbrev pub named_text : SymbolRecord → Bool
named_text r = eqb r.kind 1 && ltb 0 r.name.length

abbrev pub defined_record : SymbolRecord → Bool
defined_record r = eqb r.kind 1 && eqb r.definition 1

text-kind : (n : ℕ) → is_text (symbol_kind n) ≡ eqb n 1
unfolding symbol_kind
text-kind n = go (eqb n 1) (eqb n 2)
  where
    go : (a b : Bool) → is_text (cond a SymbolKind.Text (cond b SymbolKind.Data SymbolKind.Other)) ≡ a
    go true b = refl
    go false true = refl
    go false false = refl

no_name : (d : List ℕ) (gap p n : ℕ) → not (same [] (bytes_at d gap p n)) ≡ ltb 0 n
unfolding bytes_at same
no_name d gap p zero = refl
no_name d gap p (suc n) = sym (lt-ltb 0 (suc n) (omega arith))

pub program-by-record : (d t : List ℕ) (v : View) (r : SymbolRecord) → is_program (symbol_from d t v r) ≡ named_text r
unfolding is_program symbol_from
program-by-record d t v r = λ k. text-kind r.kind k && no_name d (gap_of v) (v.at.names + r.name.at) r.name.length k

pub text-by-record : (d t : List ℕ) (v : View) (r : SymbolRecord) → is_defined_text (symbol_from d t v r) ≡ defined_record r
unfolding symbol_from
text-by-record d t v r = λ k. text-kind r.kind k && eqb r.definition 1
