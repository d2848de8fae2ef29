-- `parse_sections::parse_text_section` meets its contract: the copy of its group, sorted, has its text in order of address.
use Rattle.parse_sections.specs.Answers.{answers-text}
use Rattle.parse_sections.specs.Grouped.{text-ready}
use native.Mathlib.Omega.{arith}
use Rattle.parse_sections.proofs.parse_text_section.Goals as goal

pub parse_text_section-requires : goal.parse_text_section-requires
parse_text_section-requires c =
    let a = c.args in
    let long = c.by_address.auto.order in
    record {
      room = omega (arith, long, c.requires.0, c.requires.2);
      text = text-ready a.records.bytes.now a.records.index.now a.records.view a.s a.group.now _ c.requires.1 c.by_address.ensures;
    }

pub returns : goal.returns
returns c =
    let a = c.args in
    answers-text a.records.bytes.now a.records.index.now a.records.view a.s a.functions.now c.parse_text_section.result _ c.parse_text_section.ensures
