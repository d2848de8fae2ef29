-- `bytes_layout::put_part` meets its contract: what the numbers passed have lies in a row, and the next is laid behind it.
use Rattle.std.specs.Prelude.{refl}
use Rattle.std.proofs.Common.{arith}
use Rattle.model.specs.Bytes.{each}
use Rattle.catalogue_laws.specs.Placed.{each_more}
use Rattle.records.specs.Of.{of}
use Rattle.bytes_layout.specs.Laid.{laid-room, laid-more, each-next}
use Rattle.bytes_layout.specs.Listed.{part_of}
use Rattle.bytes_layout.proofs.put_part.Goals as goal

pub loop-j-init : goal.loop-j-init
unfolding each
loop-j-init c = record { reach = refl; room = omega (arith, c.requires.1); held = refl }

pub put_one-at-requires : goal.put_one-at-requires
put_one-at-requires c =
    let a = c.args in
    (c.requires.0.1 c.loop-j.j-index (omega arith), laid-room _ _ (rw (each-next (of (part_of a.part) a.object.records) a.numbers.now c.loop-j.j-index (omega arith)) at c.loop-j.invariant))

pub loop-j-preserved : goal.loop-j-preserved
loop-j-preserved c =
    let f = of (part_of c.args.part) c.args.object.records in
    let order = c.args.numbers.now in
    let k = c.loop-j.j-index in
    let e = c.put_one-at.ensures in
    rw (each_more f order 0 k (omega arith)) (laid-more _ _ (rw (each-next f order k (omega arith)) at c.loop-j.invariant) e.0 e.1)
