-- `parse_text::parse_text_section` meets its contract: 11 where the pass finds a number, else what the walk answers.
use mathlib.Core.Path.{◌≡◌, ◌∙◌}
use Rattle.records.specs.Of.{of}
use Rattle.records.specs.View.{symbol_at}
use Rattle.parse_text.specs.Parsed.{refusal, parsed-conflict, parsed-walk}
use Rattle.parse_text.proofs.parse_text_section.Goals as goal

pub returns-in-Some : goal.returns-in-Some
returns-in-Some c =
    let a = c.args in
    let e : c.refused.result ≡ refusal 11 a.s.index (of symbol_at a.records c.in-Some.j).index = c.refused.ensures ∙ rw c.symbol-y.ensures in
    rw e
    (parsed-conflict a.records.bytes.now a.records.index.now a.records.view a.s a.group.now c.requires.text c.symbol_table_conflict.result a.out.now c.in-Some.j
    c.symbol_table_conflict.ensures c.in-Some.is)

pub returns-in-None : goal.returns-in-None
returns-in-None c =
    let a = c.args in
    parsed-walk a.records.bytes.now a.records.index.now a.records.view a.s a.group.now c.requires.text c.symbol_table_conflict.result a.out.now c.walk.result c.walk.new.out
    c.symbol_table_conflict.ensures c.in-None.is c.walk.ensures
