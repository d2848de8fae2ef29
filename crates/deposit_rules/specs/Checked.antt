-- What the section records say, as the walk over them answers.
use Rattle.deposit_rules.specs.declared.RecordFault.{RecordFault}
use Rattle.std.specs.Prelude.{⊤, cond, List, ℕ, Err, Ok, Result}
use Rattle.model.specs.declared.Head.{Head}
use Rattle.deposit_rules.specs.Rules.{sections_ok, some_btf}

unfoldable pub checked_sections : List ℕ → Head → Result ⊤ RecordFault
checked_sections d h = cond (sections_ok d h) (cond (some_btf d h) (Err RecordFault.Btf) (Ok tt)) (Err RecordFault.Broken)
