-- The symbols of one section by number; number 10 by the records; the refusal that a number answered for a symbol stands for.
use Rattle.std.specs.Prelude.{◌≡◌, refl, Bool, ◌||◌, List, [], ◌∷◌, map, ℕ, suc, ◌+◌, ◌<◌, ◌≤◌, eqb, ltb, length, get_or, None, Option, Some}
use Rattle.std.proofs.Common.{sym, arith}
use borrow.Author.Tests.{ne_eqb}
use Rattle.std.proofs.Math.Seq.{slice}
use Rattle.lists.specs.Tab.{tab}
use Rattle.object_view.specs.declared.View.{View}
use Rattle.model.specs.declared.Refusal.{Refusal}
use Rattle.model.specs.declared.SectionIndex.{SectionIndex}
use Rattle.model.specs.declared.SectionRecord.{SectionRecord}
use Rattle.model.specs.declared.SymbolIndex.{SymbolIndex}
use Rattle.model.specs.Bytes.{keep}
use Rattle.model.specs.Refusals.{is_empty, passes}
use Rattle.model.specs.Symbols.{top, lies_in, symbols_of, program_symbols, is_program}
use Rattle.catalogue_laws.specs.ByNumber.{members, program_members, symbols-by, programs-by}
use Rattle.catalogue_laws.specs.Groups.{kept-below}
use Rattle.records.specs.View.{gap_of}
use Rattle.stream.specs.Stream.{length-bytes}
use Rattle.object.specs.View.{section_from, section_in, symbol_in, object_in}

-- 'address plus size passes the data or 2^64 - 1': so many bytes from an offset on do
abbrev pub past_data : ℕ → ℕ → ℕ → Bool
past_data n offset size = ltb n (offset + size) || ltb top (offset + size)

module _ (d t : List ℕ) (v : View) where
  -- the numbers of a section's symbols
  abbrev pub members_in : SectionRecord → List ℕ
  members_in s = members v.order (tab (section_in d t v) v.sections) (symbol_in d t v) v.symbols (section_from d t v s)

  -- of some symbols those that are programs
  abbrev pub programs_among : List ℕ → List ℕ
  programs_among js = keep (λ j. is_program (symbol_in d t v j)) js

  module _ (s : SectionRecord) where
    pub symbols-in : symbols_of (object_in d t v) (section_from d t v s) ≡ map (symbol_in d t v) (members_in s)
    unfolding object_in
    symbols-in = symbols-by v.order (tab (section_in d t v) v.sections) (symbol_in d t v) v.symbols (section_from d t v s)

    pub programs-in : program_symbols (object_in d t v) (section_from d t v s) ≡ map (symbol_in d t v) (programs_among (members_in s))
    unfolding object_in program_members
    programs-in = programs-by v.order (tab (section_in d t v) v.sections) (symbol_in d t v) v.symbols (section_from d t v s)

    -- a number of the group is a symbol's
    pub member_below : (lo hi k : ℕ) (order : List ℕ) → slice lo hi order ≡ members_in s → hi ≤ length order → lo ≤ k → k < hi → get_or order k 0 < v.symbols
    unfolding members
    member_below lo hi k order e = kept-below (λ j. lies_in (section_from d t v s).index (symbol_in d t v j).section) v.symbols lo hi k order e

  pub empty-by-length : (js : List ℕ) → is_empty (map (symbol_in d t v) js) ≡ eqb (length js) 0
  empty-by-length [] = refl
  empty-by-length (j ∷ js) = sym (ne_eqb (suc (length js)) 0 (λ e. omega arith))

  pub past-by-record : (s : SectionRecord) (offset size : ℕ) → passes (section_from d t v s).bytes offset size ≡ past_data s.bytes.length offset size
  unfolding passes section_from
  past-by-record s offset size = rw (length-bytes d (gap_of v) (v.at.bytes + s.bytes.at) s.bytes.length)

-- the refusal that a number stands for, if there is one
abbrev pub fault_of : Option ℕ → SectionIndex → SymbolIndex → Option Refusal
fault_of None s y = None
fault_of (Some n) s y = Some (record { number = n; section = s; symbol = y; entry = 0 })
