-- `parse_sections::parse_sections` meets its contract: none of the sections passed is refused, and what they list stands in front.
use mathlib.Core.Path.{◌≡◌, refl, ◌∙◌}
use Prim.Native.Nat.{◌+◌, ◌-◌, ◌≤◌}
use native.Mathlib.Omega.{arith}
use lib.ListN.{length}
use borrow.Rule.Slice.PartMut.{put_mid}
use Rattle.std.proofs.lemmas.Result.{err_from_is_err_and}
use Rattle.records.specs.Of.{of}
use Rattle.records.specs.View.{section_at}
use Rattle.parse_sections.specs.Candidates.{candidates-inside, length-part-back}
use Rattle.parse_sections.specs.Grouped.{GroupOf, all-symbols}
use Rattle.parse_sections.specs.Pass.{Going, SectionAhead, going_start, going_end, going-past, going-refused, going-ahead, going-room, going_next}
use Rattle.parse_sections.proofs.parse_sections.Goals as goal
use Rattle.parse_sections.proofs.parse_sections.Goals.{After-group_of-lo, After-parse_section, In_ok-found}

pub loop-i-init : goal.loop-i-init
loop-i-init c =
    let a = c.args in
    let r = a.object.records in
    (refl, going_start r.bytes.now r.index.now r.view a.symbols.now a.sections.now a.programs.now a.functions.now a.maps.now _ _ c.requires.6 c.requires.7)

-- the group of the section by number
group-here : (c : After-group_of-lo) →
    let a = c.args in
    of GroupOf a.object.records (of section_at a.object.records c.loop-i.i) a.symbols.now c.loop-i.from c.group_of-lo.result.lo c.group_of-lo.result.hi
group-here c = rw c.section-s.ensures at c.group_of-lo.ensures

-- its end is within the symbols, and the lists have room for as many
few-here : (c : After-group_of-lo) → c.group_of-lo.result.hi ≤ c.args.object.records.view.symbols
few-here c =
    let r = c.args.object.records in
    omega (arith, c.group_of-lo.ensures.within, all-symbols r.bytes.now r.index.now r.view c.args.symbols.now c.requires.1)

functions-here : (c : After-group_of-lo) → c.group_of-lo.result.hi ≤ length c.loop-i.functions
functions-here c = omega (arith, few-here c, c.loop-i.invariant.0, c.requires.4)

pub slice_bounds-parse_section-end : goal.slice_bounds-parse_section-end
slice_bounds-parse_section-end c = omega (arith, few-here (goal.at.slice_bounds-parse_section-end c).After-group_of-lo, c.requires.3)

pub slice_bounds-parse_section-end-in-loop-i : goal.slice_bounds-parse_section-end-in-loop-i
slice_bounds-parse_section-end-in-loop-i c = omega (arith, few-here (goal.at.slice_bounds-parse_section-end-in-loop-i c).After-group_of-lo, c.requires.5)

pub slice_bounds-parse_section-end-in-loop-i-2 : goal.slice_bounds-parse_section-end-in-loop-i-2
slice_bounds-parse_section-end-in-loop-i-2 c = functions-here (goal.at.slice_bounds-parse_section-end-in-loop-i-2 c).After-group_of-lo

-- the functions, as long as they were
functions-kept : (c : After-parse_section) →
    let w = c.loop-i.n.functions in
    length (put_mid w (c.group_of-lo.result.hi - w) c.loop-i.functions c.parse_section.new.functions) ≡ length c.args.functions.now
functions-kept c =
    let w = c.loop-i.n.functions in
    length-part-back w (c.group_of-lo.result.hi - w) c.loop-i.functions c.parse_section.new.functions c.parse_section.auto.functions ∙ c.loop-i.invariant.0

pub shape_of-functions-in_err-found : goal.shape_of-functions-in_err-found
shape_of-functions-in_err-found c = functions-kept (goal.at.shape_of-functions-in_err-found c).After-parse_section

pub returns-in_err-found : goal.returns-in_err-found
returns-in_err-found c =
    let a = c.args in
    let r = a.object.records in
    let l = c.loop-i in
    let p = err_from_is_err_and c.from_residual.result c.from_residual.ensures.1 in
    rw (p.1, p.2)
    (going-refused r.bytes.now r.index.now r.view a.symbols.now l.sections l.programs l.functions l.maps l.i l.from l.n l.invariant.1 c.requires.1
    c.loop-i-test.true a.object.readable c.group_of-lo.result.lo c.group_of-lo.result.hi (group-here (goal.at.returns-in_err-found c).After-group_of-lo) c.parse_section.result _
    (rw c.section-s.ensures at c.parse_section.ensures) _ c.in_err-found.was)

-- what the section adds to the functions
ahead : (c : In_ok-found) →
    let a = c.args in
    let w = c.loop-i.n.functions in
    let hi = c.group_of-lo.result.hi in
    of SectionAhead a.object.records a.symbols.now (put_mid w (hi - w) c.loop-i.functions c.parse_section.new.functions) c.loop-i.i hi w (w + c.in_ok-found.found)
ahead c =
    let a = c.args in
    let r = a.object.records in
    let l = c.loop-i in
    let g = c.group_of-lo in
    going-ahead r.bytes.now r.index.now r.view a.symbols.now l.sections l.programs l.functions l.maps l.i l.from l.n l.invariant.1 c.requires.1
    c.loop-i-test.true a.object.readable g.result.lo g.result.hi (rw c.section-s.ensures at g.ensures) c.parse_section.result _
    (rw c.section-s.ensures at c.parse_section.ensures) _
    (omega (arith, g.ensures.within, all-symbols r.bytes.now r.index.now r.view a.symbols.now c.requires.1, l.invariant.0, c.requires.4)) c.parse_section.auto.functions c.in_ok-found.was

pub slice_bounds-list_others-end : goal.slice_bounds-list_others-end
slice_bounds-list_others-end c = candidates-inside (ahead (goal.at.slice_bounds-list_others-end c).In_ok-found).held

-- what is listed stands in the lists that were worked in
going-here : (c : In_ok-found) →
    let a = c.args in
    let l = c.loop-i in
    let lo = c.group_of-lo.result.lo in
    let hi = c.group_of-lo.result.hi in
    let count = a.object.records.view.sections in
    of Going a.object.records a.symbols.now l.sections (put_mid lo (hi - lo) l.programs c.parse_section.new.order) l.functions
    (put_mid (count + lo) (count + hi - (count + lo)) l.maps c.parse_section.new.tmp) l.i l.from l.n
going-here c =
    let a = c.args in
    let r = a.object.records in
    let l = c.loop-i in
    let h = c.group_of-lo.ensures.after in
    going-past r.bytes.now r.index.now r.view a.symbols.now l.sections l.programs l.functions l.maps l.i l.from l.n l.invariant.1 c.requires.1
    c.group_of-lo.result.lo (r.view.sections + c.group_of-lo.result.lo) _ _ h (omega arith)

pub list_others-n-requires : goal.list_others-n-requires
list_others-n-requires c =
    let a = c.args in
    let r = a.object.records in
    let l = c.loop-i in
    let g = c.group_of-lo.result in
    let at = goal.at.list_others-n-requires c in
    let count = r.view.sections in
    going-room r.bytes.now r.index.now r.view a.symbols.now l.sections _ l.functions _ l.i l.from l.n (going-here at.In_ok-found) c.requires.1
    c.loop-i-test.true a.object.readable g.lo g.hi (group-here at.After-group_of-lo) _ _ (ahead at.In_ok-found)
    (omega (arith, c.requires.2))
    (rw (length-part-back g.lo (g.hi - g.lo) l.programs c.parse_section.new.order c.parse_section.auto.order) (omega (arith, c.requires.3)))
    (rw (length-part-back (count + g.lo) (count + g.hi - (count + g.lo)) l.maps c.parse_section.new.tmp c.parse_section.auto.tmp) (omega (arith, c.requires.5)))

pub loop-i-preserved : goal.loop-i-preserved
loop-i-preserved c =
    let a = c.args in
    let r = a.object.records in
    let l = c.loop-i in
    let g = c.group_of-lo.result in
    let at = goal.at.loop-i-preserved c in (
      functions-kept at.After-parse_section,
      going_next r.bytes.now r.index.now r.view a.symbols.now l.sections _ l.functions _ l.i l.from l.n (going-here at.In_ok-found) c.requires.1
          c.loop-i-test.true a.object.readable g.lo g.hi (group-here at.After-group_of-lo) _ _ (ahead at.In_ok-found)
          c.kind_of-kind.result c.list_others-n.result _ _ _ (rw c.section-s.ensures at c.kind_of-kind.ensures) c.list_others-n.ensures,
    )

pub shape_of-functions : goal.shape_of-functions
shape_of-functions c = c.loop-i.invariant.0

pub returns : goal.returns
returns c =
    let a = c.args in
    let r = a.object.records in
    let l = c.loop-i in
    going_end r.bytes.now r.index.now r.view a.symbols.now l.sections l.programs l.functions l.maps l.i l.from l.n l.invariant.1 c.requires.1 (omega arith)
