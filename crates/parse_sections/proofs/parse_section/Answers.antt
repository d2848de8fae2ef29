-- `parse_sections::parse_section` meets its contract: `.BTF.ext` is skipped, 4 comes first.
use Rattle.parse_sections.specs.Answers.{section-skipped, section-untargeted, section-kind}
use Rattle.parse_first.specs.Targets.{reaches-untargeted}
use Rattle.model.specs.SectionKind.{is_kind}
use Rattle.model.specs.declared.EbpfSectionKind.{EbpfSectionKind as Kind}
use mathlib.Core.Path.{sym, ap, ◌∙◌}
use Rattle.parse_sections.proofs.parse_section.Goals as goal

pub returns-then-is_btf_ext : goal.returns-then-is_btf_ext
returns-then-is_btf_ext c =
    let a = c.args in
    let k = sym (c.is_btf_ext.ensures ∙ ap (is_kind Kind.BtfExt) c.requires.4) in
    section-skipped a.records.bytes.now a.records.index.now a.records.view a.s a.functions.now (k ∙ c.if-is_btf_ext.true)

pub returns-then-untargeted : goal.returns-then-untargeted
returns-then-untargeted c =
    let a = c.args in
    let k = sym (c.is_btf_ext.ensures ∙ ap (is_kind Kind.BtfExt) c.requires.4) in
    let r = reaches-untargeted a.records.bytes.now a.records.index.now a.records.view a.next.now a.s c.requires.5 c.requires.6 in
    rw (rw c.of_section.ensures at c.map.ensures.cases)
    (section-untargeted a.records.bytes.now a.records.index.now a.records.view a.s a.functions.now (k ∙ c.if-is_btf_ext.false) (sym (c.untargeted.ensures ∙ r) ∙ c.if-untargeted.true))

pub returns : goal.returns
returns c =
    let a = c.args in
    let k = sym (c.is_btf_ext.ensures ∙ ap (is_kind Kind.BtfExt) c.requires.4) in
    let r = reaches-untargeted a.records.bytes.now a.records.index.now a.records.view a.next.now a.s c.requires.5 c.requires.6 in
    section-kind a.records.bytes.now a.records.index.now a.records.view a.s a.functions.now c.parse_kind.result _ (k ∙ c.if-is_btf_ext.false)
    (sym (c.untargeted.ensures ∙ r) ∙ c.if-untargeted.false) c.parse_kind.ensures
