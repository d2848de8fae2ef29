-- `<RelocationRecord as Record<16>>::from_bytes` meets its contract: the reserved bytes are the last three of four.
use mathlib.Core.Path.{◌≡◌}
use Prim.Native.Nat.{◌/◌}
use native.Mathlib.Omega.{arith}
use Rattle.model.specs.Bytes.{little, part}
use Rattle.model.specs.Deposit.{relocation_record}
use Rattle.stream.specs.Fields.{part-first}
use Rattle.records.proofs.RelocationRecordRecord16.from_bytes.Goals as goal

pub returns : goal.returns
unfolding relocation_record
returns c =
    let s = c.args.s.now in
    let small = c.type_inv.s in
    let e : c.four-2.result / 256 ≡ little (part s 13 3) = omega (arith, c.four-2.ensures, part-first s 12 3 (omega arith), small 12) in
    cc e
