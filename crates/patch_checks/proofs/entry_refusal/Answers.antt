-- `patch_checks::entry_refusal` meets its contract: by the ranges, the mark, and the symbols that bear the name.
use mathlib.Core.Path.{◌≡◌, sym, ap, ◌∙◌}
use mathlib.Core.Bool.{true, false}
use native.Mathlib.Omega.{arith}
use borrow.Author.Tests.{eq-eqb, ne_eqb}
use lib.Dec.{eqb}
use Rattle.lists.specs.Part.{length_part}
use Rattle.model.specs.Refusals.{entry_refusal}
use Rattle.records.specs.Of.{of}
use Rattle.object.specs.Checked.{checked_of}
use Rattle.object.specs.View.{object_in}
use Rattle.patch_checks.specs.Entries.{patch_by, lent-ranges, bytes-length}
use Rattle.patch_checks.specs.Checks.{maps_of_numbers, entry_fault, not-inside, other-mark, by-bearer}
use Rattle.patch_checks.proofs.entry_refusal.Goals as goal
use Rattle.patch_checks.proofs.entry_refusal.Goals.{After-bearer_of, Else-not-is_lent, then-not-is_lent-via-then-not-is_lent, then-not-is_lent-via-else-not-is_lent+then-x-gt1}

pub returns-then-not-is_lent : goal.returns-then-not-is_lent
unfolding patch_by
returns-then-not-is_lent c =
    let a = c.args in
    let r = a.object.records in
    let ms = maps_of_numbers r.bytes.now r.index.now r.view a.maps.now in
    let p = patch_by a.patches.now a.x in
    c.of_entry.ensures
    ∙ ap checked_of (sym (elim c.then-not-is_lent.branch [
      | then-not-is_lent-via-then-not-is_lent w ↦ not-inside r.bytes.now r.index.now r.view ms a.e p (sym c.is_lent.ensures ∙ w.if-not-is_lent.true)
      | then-not-is_lent-via-else-not-is_lent+then-x-gt1 w ↦ other-mark r.bytes.now r.index.now r.view ms a.e p (omega (arith, w.if-x-gt1.true))
    ]))

lent : (c : Else-not-is_lent) → (patch_by c.args.patches.now c.args.x).inside ≡ true
lent c = sym c.is_lent.ensures ∙ c.if-not-is_lent.false

pub part-requires : goal.part-requires
part-requires c = (lent-ranges c.args.patches.now c.args.x (lent (goal.at.part-requires c).Else-not-is_lent)).0

pub bearer_of-requires : goal.bearer_of-requires
bearer_of-requires c =
    let a = c.args in
    let inside = (lent-ranges a.patches.now a.x (lent (goal.at.bearer_of-requires c).Else-not-is_lent)).0 in
    rw (c.part.ensures, length_part a.patches.now a.x.name.at a.x.name.length inside) c.requires.1

told : (c : After-bearer_of)
    → (let a = c.args in
    let r = a.object.records in
    let ms = of maps_of_numbers r a.maps.now in
    entry_refusal (of object_in r) ms a.e (patch_by a.patches.now a.x) ≡ of entry_fault r ms a.e a.x.bytes.length a.x.mark c.bearer_of.result)
unfolding patch_by
told c =
    let a = c.args in
    let r = a.object.records in
    let inside : (patch_by a.patches.now a.x).inside ≡ true = sym c.is_lent.ensures ∙ c.if-not-is_lent.false in
    by-bearer r.bytes.now r.index.now r.view (of maps_of_numbers r a.maps.now) a.e (patch_by a.patches.now a.x) inside (omega arith)
    c.bearer_of.result (c.bearer_of.ensures ∙ rw c.part.ensures)
    ∙ rw (bytes-length a.patches.now a.x inside)

pub returns-in-Nothing : goal.returns-in-Nothing
returns-in-Nothing c =
    let e : eqb c.args.x.mark 1 ≡ true = eq-eqb c.args.x.mark 1 c.if-x-eq1.true in
    c.of_entry-in-Nothing.ensures ∙ sym (ap checked_of (told (goal.at.returns-in-Nothing c).After-bearer_of) ∙ rw (c.in-Nothing.is, e))

pub returns-in-Nothing-2 : goal.returns-in-Nothing-2
returns-in-Nothing-2 c =
    let e : eqb c.args.x.mark 1 ≡ false = ne_eqb c.args.x.mark 1 c.if-x-eq1.false in
    sym (ap checked_of (told (goal.at.returns-in-Nothing-2 c).After-bearer_of) ∙ rw (c.in-Nothing.is, e))

pub returns-in-One : goal.returns-in-One
returns-in-One c = c.symbol_refusal.ensures ∙ sym (ap checked_of (told (goal.at.returns-in-One c).After-bearer_of) ∙ rw c.in-One.is)

pub returns-in-Several : goal.returns-in-Several
returns-in-Several c = c.of_entry-in-Several.ensures ∙ sym (ap checked_of (told (goal.at.returns-in-Several c).After-bearer_of) ∙ rw c.in-Several.is)
