-- The lemmas on numbers 10 and 15 of a program's symbol (`specs/Fault.antt`).
use Rattle.std.proofs.Math.Path.{◌≡◌, refl}
use Rattle.std.specs.Prelude.{Bool, cond, ◌||◌, List, ℕ, map, None, Ok, Option, Some}
use Rattle.std.proofs.Math.Bool.{true, false}
use Rattle.std.proofs.Math.Dec.{ltb}
use Rattle.object_view.specs.declared.View.{View}
use Rattle.model.specs.declared.Refusal.{Refusal}
use Rattle.model.specs.declared.SectionRecord.{SectionRecord}
use Rattle.model.specs.declared.SymbolRecord.{SymbolRecord}
use Rattle.model.specs.Bytes.{first_in, or_else}
use Rattle.model.specs.Instruction.{invalid_program_code}
use Rattle.model.specs.Refusals.{refuse, program_symbol_refusal}
use Rattle.model.specs.Symbols.{is_program}
use Rattle.catalogue_laws.specs.Groups.{first-kept}
use Rattle.object.specs.Checked.{checked_of, checked_step, checked_end}
use Rattle.object.specs.Group.{past_data, past-by-record, programs_among, fault_of}
use Rattle.object.specs.Offset.{record_offset, offset-by-record}
use Rattle.object.specs.View.{section_from, symbol_from, symbol_in, named_text, program-by-record}
use Rattle.parse_programs.specs.Fault.{program_fault, program_refusal_by, program_refusal_at}

pub program-by-fault : (d t : List ℕ) (v : View) (s : SectionRecord) (y : SymbolRecord)
    → program_symbol_refusal (section_from d t v s) (symbol_from d t v y) ≡ fault_of (program_fault s y) s.index y.index
unfolding program_symbol_refusal section_from symbol_from program_fault
program-by-fault d t v s y =
    rw (offset-by-record d t v s y, past-by-record d t v s (record_offset s y) y.size)
    (go (past_data s.bytes.length (record_offset s y) y.size || ltb y.address s.address) (invalid_program_code y.size))
  where
    go : (a b : Bool) → or_else (refuse a 10 s.index y.index 0) (refuse b 15 s.index y.index 0) ≡ fault_of (cond a (Some 10) (cond b (Some 15) None)) s.index y.index
    go true b = refl
    go false true = refl
    go false false = refl

-- ---- what a symbol of the section is refused for

module _ (d t : List ℕ) (v : View) (s : SectionRecord) where
  pub refused-by : (y : SymbolRecord)
      → checked_of (program_refusal_by d t v s y) ≡ cond (named_text y) (checked_of (fault_of (program_fault s y) s.index y.index)) (Ok tt)
  refused-by y = rw (program-by-record d t v y, program-by-fault d t v s y) (go (named_text y) (fault_of (program_fault s y) s.index y.index))
    where
      go : (b : Bool) (q : Option Refusal) → checked_of (cond b q None) ≡ cond b (checked_of q) (Ok tt)
      go true q = refl
      go false q = refl

  pub first-refused : (js : List ℕ)
      → first_in (program_symbol_refusal (section_from d t v s)) (map (symbol_in d t v) (programs_among d t v js)) ≡ first_in (program_refusal_at d t v s) js
  first-refused js = first-kept (program_symbol_refusal (section_from d t v s)) (symbol_in d t v) (λ j. is_program (symbol_in d t v j)) js

-- the loop over a group's symbols
pub ruleset symbols = (checked_step, checked_end, refused-by, first-refused)
