-- `patch_checks::place_refusal` meets its contract: no map, or the own bytes of the first map of the symbol's section.
use mathlib.Core.Path.{◌≡◌, sym, ap, ◌∙◌}
use Rattle.model.specs.Refusals.{of_entry, place_refusal}
use Rattle.records.specs.Of.{of}
use Rattle.object.specs.Checked.{checked_of}
use Rattle.object.specs.View.{symbol_from}
use Rattle.patch_checks.specs.Checks.{maps_of_numbers, refused-22, map_at_lem, by-own}
use Rattle.patch_checks.proofs.place_refusal.Goals as goal
use Rattle.patch_checks.proofs.place_refusal.Goals.{After-passes}

pub returns-in_default : goal.returns-in_default
returns-in_default c =
    let a = c.args in
    let r = a.object.records in
    c.of_entry.ensures
    ∙ ap checked_of (sym (refused-22 r.bytes.now r.index.now r.view a.maps.now a.by.now c.requires a.y a.e (sym c.in_default.is ∙ c.place_of.ensures)))

pub bounds-maps-place : goal.bounds-maps-place
bounds-maps-place c =
    let a = c.args in
    let r = a.object.records in
    (map_at_lem r.bytes.now r.index.now r.view a.maps.now a.by.now c.requires a.y a.e _ (sym c.in-Some.is ∙ c.place_of.ensures)).within

told : (c : After-passes)
    → (let a = c.args in
    let r = a.object.records in
    place_refusal (of maps_of_numbers r a.maps.now) a.e (of symbol_from r a.y) ≡ of_entry 23 a.e c.passes.result)
told c =
    let a = c.args in
    let r = a.object.records in
    by-own r.bytes.now r.index.now r.view a.maps.now a.by.now c.requires a.y a.e _ (sym c.in-Some.is ∙ c.place_of.ensures)
    ∙ rw (c.passes.ensures, c.own_length-own.ensures.0)

pub returns-then-passes : goal.returns-then-passes
returns-then-passes c = c.of_entry-then-passes.ensures ∙ sym (ap checked_of (told (goal.at.returns-then-passes c).After-passes) ∙ rw c.if-passes.true)

pub returns : goal.returns
returns c = sym (ap checked_of (told (goal.at.returns c).After-passes) ∙ rw c.if-passes.false)
