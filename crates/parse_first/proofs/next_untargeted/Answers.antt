-- `parse_first::next_untargeted` meets its contract: from k on the table is filled, and `nearest` is what stands at k.
use mathlib.Core.Path.{◌≡◌}
use Prim.Native.Nat.{◌-◌}
use native.Mathlib.Omega.{arith}
use Rattle.records.specs.Of.{of}
use Rattle.parse_first.specs.Targets.{next_untargeted, next-before, filled-before}
use Rattle.parse_first.proofs.next_untargeted.Goals as goal
use Rattle.parse_first.proofs.next_untargeted.Goals.{then-is_no_symbol, else-is_no_symbol}

pub loop-k-preserved : goal.loop-k-preserved
loop-k-preserved c =
    let r = c.args.records in
    let k = c.loop-k.k in
    let b = next-before r.bytes.now r.index.now r.view k (omega arith) (omega arith) in
    let n : c.if-is_no_symbol.nearest ≡ of next_untargeted r (k - 1) =
    elim c.if-is_no_symbol.branch [ then-is_no_symbol w ↦ grind arith | else-is_no_symbol w ↦ grind arith ] in
    record { nearest = n; filled = rw (n, c.loop-k.invariant.filled) (filled-before (of next_untargeted r) k r.view.relocations c.args.next.now (omega arith) (omega arith) (omega arith)) }
