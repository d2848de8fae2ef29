-- `parse_sections::parse_kind` meets its contract: by the kind.
use Rattle.parse_sections.specs.Answers.{kind-program, kind-text, kind-maps, kind-btf-maps, kind-other}
use Rattle.model.specs.SectionKind.{kind_of}
use Rattle.object.specs.View.{section_from}
use Rattle.parse_sections.proofs.OtherKinds.{not-kind}
use Rattle.model.specs.declared.EbpfSectionKind.{EbpfSectionKind as Kind}
use Rattle.std.proofs.lemmas.Result.{err_from_is_err_and}
use mathlib.Core.Path.{sym, ◌∙◌}
use Rattle.parse_sections.proofs.parse_kind.Goals as goal

pub returns-in-Program : goal.returns-in-Program
returns-in-Program c =
    let a = c.args in
    kind-program a.records.bytes.now a.records.index.now a.records.view a.s a.functions.now c.parse_programs.result _ (sym c.requires.4 ∙ c.in-Program.is)
    c.parse_programs.ensures

pub returns-in_err-parse_maps_section-in-Maps : goal.returns-in_err-parse_maps_section-in-Maps
returns-in_err-parse_maps_section-in-Maps c =
    let a = c.args in
    let p = err_from_is_err_and c.from_residual.result c.from_residual.ensures.1 in
    rw (p.1, p.2)
    (rw (sym c.parse_maps_section.ensures ∙ c.in_err-parse_maps_section-in-Maps.was) at (kind-maps a.records.bytes.now a.records.index.now a.records.view a.s a.functions.now (sym c.requires.4 ∙ c.in-Maps.is)))

pub returns-in_ok-parse_maps_section-in-Maps : goal.returns-in_ok-parse_maps_section-in-Maps
returns-in_ok-parse_maps_section-in-Maps c =
    let a = c.args in
    rw (sym c.parse_maps_section.ensures ∙ c.in_ok-parse_maps_section-in-Maps.was) at (kind-maps a.records.bytes.now a.records.index.now a.records.view a.s a.functions.now (sym c.requires.4 ∙ c.in-Maps.is))

pub returns-in-Text : goal.returns-in-Text
returns-in-Text c =
    let a = c.args in
    kind-text a.records.bytes.now a.records.index.now a.records.view a.s a.functions.now c.parse_text_section.result _ (sym c.requires.4 ∙ c.in-Text.is)
    c.parse_text_section.ensures

pub returns-in-BtfMaps : goal.returns-in-BtfMaps
returns-in-BtfMaps c =
    let a = c.args in
    rw (rw c.of_section.ensures at c.map.ensures.cases)
    (kind-btf-maps a.records.bytes.now a.records.index.now a.records.view a.s a.functions.now (sym c.requires.4 ∙ c.in-BtfMaps.is))

pub returns-in_default : goal.returns-in_default
returns-in_default c =
    let a = c.args in
    let k = kind_of (section_from a.records.bytes.now a.records.index.now a.records.view a.s) in
    kind-other a.records.bytes.now a.records.index.now a.records.view a.s a.functions.now (not-kind Kind.Program k (rw c.requires.4 at c.in_default.not-Program)) (not-kind Kind.Maps k (rw c.requires.4 at c.in_default.not-Maps))
    (not-kind Kind.Text k (rw c.requires.4 at c.in_default.not-Text)) (not-kind Kind.BtfMaps k (rw c.requires.4 at c.in_default.not-BtfMaps))
