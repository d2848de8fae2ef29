-- Numbers 10 and 15 of a program's symbol by the records; symbols that are no programs are not looked at.
use Rattle.std.specs.Prelude.{cond, ◌||◌, List, ℕ, None, Option, Some}
use Rattle.std.proofs.Math.Dec.{ltb}
use Rattle.object_view.specs.declared.View.{View}
use Rattle.model.specs.declared.Refusal.{Refusal}
use Rattle.model.specs.declared.SectionRecord.{SectionRecord}
use Rattle.model.specs.declared.SymbolRecord.{SymbolRecord}
use Rattle.model.specs.Instruction.{invalid_program_code}
use Rattle.model.specs.Refusals.{program_symbol_refusal}
use Rattle.model.specs.Symbols.{is_program}
use Rattle.records.specs.View.{symbol_at}
use Rattle.object.specs.Group.{past_data}
use Rattle.object.specs.Offset.{record_offset}
use Rattle.object.specs.View.{section_from, symbol_from}

unfoldable pub program_fault : SectionRecord → SymbolRecord → Option ℕ
program_fault s y =
    cond (past_data s.bytes.length (record_offset s y) y.size || ltb y.address s.address) (Some 10)
    (cond (invalid_program_code y.size) (Some 15) None)

-- ---- what a symbol of the section is refused for

module _ (d t : List ℕ) (v : View) (s : SectionRecord) where
  abbrev pub program_refusal_by : SymbolRecord → Option Refusal
  program_refusal_by y = cond (is_program (symbol_from d t v y)) (program_symbol_refusal (section_from d t v s) (symbol_from d t v y)) None

  abbrev pub program_refusal_at : ℕ → Option Refusal
  program_refusal_at j = program_refusal_by (symbol_at d t v j)
