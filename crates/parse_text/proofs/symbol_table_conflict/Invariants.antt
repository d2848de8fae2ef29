use mathlib.Core.Path.{◌≡◌}
use lib.ListN.{drop}
use Rattle.catalogue_laws.specs.Shared.{least_again}
use Rattle.records.specs.Of.{of}
use Rattle.parse_text.specs.Group.{address_in, text_group}
use Rattle.parse_text.specs.Again.{conflict_answer}
use Rattle.parse_text.proofs.symbol_table_conflict.Given as goal

abbrev pub invariant-loop-j : goal.invariant-loop-j
invariant-loop-j l =
    least_again (of address_in l.records) (of text_group l.records l.group) ≡ conflict_answer (of address_in l.records) l.a (of text_group l.records (drop l.j-index l.group))
