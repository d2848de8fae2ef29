-- `<SymbolRecord as Record<40>>::from_bytes` meets its contract: the reserved bytes are the last six of eight.
use mathlib.Core.Path.{◌≡◌}
use Prim.Native.Nat.{◌/◌}
use native.Mathlib.Omega.{arith}
use Rattle.model.specs.Bytes.{little, part}
use Rattle.model.specs.Deposit.{symbol_record}
use Rattle.stream.specs.Fields.{part-first}
use Rattle.records.proofs.SymbolRecordRecord40.from_bytes.Goals as goal

pub returns : goal.returns
unfolding symbol_record
returns c =
    let s = c.args.s.now in
    let small = c.type_inv.s in
    let e : c.eight-3.result / 65536 ≡ little (part s 34 6) =
    omega (arith, c.eight-3.ensures, part-first s 32 7 (omega arith), part-first s 33 6 (omega arith), small 32, small 33)
    in
    cc e
