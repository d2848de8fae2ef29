-- `rows_functions::find` meets its contract: each turn leaves the rows that the definition goes on with, by one turn fewer.
use Rattle.std.proofs.Common.{[], ◌∷◌, ◌∙◌, sym, min, length, ◌-◌, arith}
use Rattle.std.specs.declared.cmp.Ordering.{Ordering}
use Rattle.rows_functions.specs.Search.{none-left, a-turn, found-by-turns}
use Rattle.rows_functions.proofs.find.Goals as goal

pub loop-low-init : goal.loop-low-init
loop-low-init c =
    let e = c.min-high.ensures in
    record { within = omega (arith, e); turns = min c.args.count (length c.args.functions.now); fewer = omega (arith, e); found = rw e (found-by-turns c.args.functions.now c.args.count (c.args.section.0 ∷ c.args.address ∷ [])) }

pub loop-low-preserved-in-Less : goal.loop-low-preserved-in-Less
loop-low-preserved-in-Less c =
    let i = c.loop-low.invariant in
    let l = c.loop-low-test.true in
    record {
      within = i.within;
      turns = i.turns - 1;
      fewer = omega (arith, l, i.fewer);
      found = a-turn c.args.functions.now (c.args.section.0 ∷ c.args.address ∷ []) i.turns c.loop-low.low c.loop-low.high Ordering.Less _ l i.fewer (sym c.in-Less.is ∙ c.compare.ensures) i.found;
    }

pub loop-low-preserved : goal.loop-low-preserved
loop-low-preserved c =
    let i = c.loop-low.invariant in
    let l = c.loop-low-test.true in
    record {
      within = omega (arith, i.within);
      turns = i.turns - 1;
      fewer = omega (arith, l, i.fewer);
      found = a-turn c.args.functions.now (c.args.section.0 ∷ c.args.address ∷ []) i.turns c.loop-low.low c.loop-low.high Ordering.Greater _ l i.fewer (sym c.in-Greater.is ∙ c.compare.ensures) i.found;
    }

pub returns-in-Equal : goal.returns-in-Equal
returns-in-Equal c =
    let i = c.loop-low.invariant in
    a-turn c.args.functions.now (c.args.section.0 ∷ c.args.address ∷ []) i.turns c.loop-low.low c.loop-low.high Ordering.Equal _ c.loop-low-test.true i.fewer (sym c.in-Equal.is ∙ c.compare.ensures) i.found

pub returns : goal.returns
returns c =
    let i = c.loop-low.invariant in
    sym (none-left c.args.functions.now (c.args.section.0 ∷ c.args.address ∷ []) i.turns c.loop-low.low c.loop-low.high c.loop-low-test.false) ∙ i.found
