-- `bytes_layout::total` meets its contract: the sum is the length of what the numbers passed have.
use Rattle.std.specs.Prelude.{refl}
use Rattle.std.proofs.Common.{arith}
use Rattle.model.specs.Bytes.{each}
use Rattle.catalogue_laws.specs.Placed.{each-longer}
use Rattle.records.specs.Of.{of}
use Rattle.bytes_layout.specs.Listed.{part_of}
use Rattle.bytes_layout.proofs.total.Goals as goal

pub loop-j-init : goal.loop-j-init
unfolding each
loop-j-init c = (omega arith, refl)

pub loop-j-preserved : goal.loop-j-preserved
loop-j-preserved c =
    let a = c.args in
    let n = c.part_length-sum.ensures in
    let g = each-longer (of (part_of a.part) a.object.records) a.numbers.now 0 c.loop-j.j-index (omega arith) in
    (omega arith, omega (arith, g, n))
