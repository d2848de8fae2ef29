-- `parse_first::find_named` meets its contract: the cursor is past as many sections as were looked at.
use mathlib.Core.Path.{sym, ◌∙◌}
use native.Mathlib.Omega.{arith}
use Rattle.records.specs.Records.{step-record}
use Rattle.parse_first.specs.Named.{named-next}
use Rattle.parse_first.proofs.find_named.Goals as goal

pub loop-i-smaller : goal.loop-i-smaller
loop-i-smaller c = let m = step-record _ _ _ (sym c.next.ensures ∙ c.in-Some.is) in rw m.1 (omega (arith, m.2))

pub loop-i-preserved : goal.loop-i-preserved
loop-i-preserved c =
    let r = c.args.records in
    let l = c.loop-i in
    let m = step-record _ _ _ (sym c.next.ensures ∙ c.in-Some.is) in
    let n = named-next r.bytes.now r.index.now r.view l.c.at in
    rw m.1 (record { inside = omega (arith, m.2); end = l.invariant.end; found = rw (c.with_section-found.ensures, m.0, l.invariant.found) (sym n) })
