-- What a refusal of an object, a patch list, a deposit or a file says: its number, and the places that document 01 says this number names. proofs/RefusalPlaces.antt shows it.
use Rattle.std.specs.Prelude.{◌≡◌, Bool, ◌&&◌, ◌||◌, ℕ, ◌≤◌, leb, length, None, Option, Some}
use Rattle.std.proofs.Math.Bool.{true, false}
use mathlib.Core.List.{List}
use Rattle.model.specs.declared.SectionIndex.{SectionIndex}
use Rattle.model.specs.declared.SymbolIndex.{SymbolIndex}
use Rattle.model.specs.declared.Refusal.{Refusal}
use Rattle.model.specs.Bytes.{◌∈◌}
use Rattle.model.specs.Object.{Section, Symbol, Object, Patch}
use Rattle.model.specs.Refusals.{no_section, no_symbol}
use Rattle.guarantees.specs.WordsOfDemand3.{Input}

-- '4 to 17 name the section'
abbrev pub names_section : ℕ → Bool
names_section n = leb 4 n && leb n 17

-- '10, 11 .., 13 to 16 also the symbol'
abbrev pub names_symbol : ℕ → Bool
names_symbol n = (leb 10 n && leb n 11) || (leb 13 n && leb n 16)

-- '18 to 23 only the entry'
abbrev pub names_entry : ℕ → Bool
names_entry n = leb 18 n && leb n 23

-- a section of the object; 'Places not named are 0.'
abbrev pub SectionPlace : Object → SectionIndex → Bool → Type 0
SectionPlace o i true = (s : Section) × (s ∈ o.sections) × (i ≡ s.index)
SectionPlace o i false = i ≡ no_section

abbrev pub SymbolPlace : Object → SymbolIndex → Bool → Type 0
SymbolPlace o i true = (y : Symbol) × (y ∈ o.symbols) × (i ≡ y.index)
SymbolPlace o i false = i ≡ no_symbol

-- 'the entry, from 1'
abbrev pub EntryPlace : List Patch → ℕ → Bool → Type 0
EntryPlace ps e true = (1 ≤ e) × (e ≤ length ps)
EntryPlace ps e false = e ≡ 0

-- 'a refusal names section, symbol and list entry'
pub record Names (o : Object) (ps : List Patch) (r : Refusal) : Type 0 where
  pub section : SectionPlace o r.section (names_section r.number)
  pub symbol : SymbolPlace o r.symbol (names_symbol r.number)
  pub entry : EntryPlace ps r.entry (names_entry r.number)

-- 'one numbered refusal of document 01': 1 to 24; 25 and 26 'on files .. replace 1 and 2'
abbrev pub NumberFor : Input → ℕ → Type 0
NumberFor (Input.deposit d) n = (1 ≤ n) × (n ≤ 24)
NumberFor (Input.file f) n = (3 ≤ n) × (n ≤ 26)

-- a refusal whose number is one of those, and which names its places
abbrev Said : (ℕ → Type 0) → Object → List Patch → Option Refusal → Type 0
Said P o ps None = Unit {0}
Said P o ps (Some r) = P r.number × Names o ps r

pub record Says (P : ℕ → Type 0) (o : Object) (ps : List Patch) (r : Option Refusal) : Type 0 where
  pub said : Said P o ps r

-- ---- a deposit or a file: 1 to 3; 25, 26 and 3

-- a verdict has no 24
abbrev pub VerdictNumber : Input → ℕ → Type 0
VerdictNumber x n = NumberFor x n × ((n ≡ 24) → ⊥)
