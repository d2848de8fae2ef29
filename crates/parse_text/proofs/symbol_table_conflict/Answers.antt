-- `parse_text::symbol_table_conflict` meets its contract: what the pass answers in the end is fixed by what it holds and by what is before it (`conflict_answer`).
use mathlib.Core.Path.{◌≡◌, ◌∙◌, sym}
use mathlib.Core.List.{[]}
use Prim.Native.Nat.{suc}
use native.Mathlib.Omega.{arith}
use lib.ListN.{drop, get_or}
use lib.Seq.{drop-cons}
use Rattle.std.proofs.Common.{add-one, drop_of_length-le}
use Rattle.records.specs.Of.{of}
use Rattle.parse_text.specs.Group.{address_in, group-end}
use Rattle.parse_text.specs.Again.{again_next, answer-first, answer-next, answer-end}
use Rattle.parse_text.proofs.symbol_table_conflict.Goals as goal

pub loop-j-init : goal.loop-j-init
loop-j-init c = answer-first (of address_in c.args.records) _

pub loop-j-preserved : goal.loop-j-preserved
loop-j-preserved c =
    let r = c.args.records in
    let g = c.args.group.now in
    let j = get_or g c.loop-j.j-index 0 in
    let m : again_next c.loop-j.a j c.symbol.result ≡ c.next-a.result = sym c.next-a.ensures in
    rw (drop-cons g c.loop-j.j-index 0 (omega arith)) at c.loop-j.invariant
    ∙ answer-next r.bytes.now r.index.now r.view c.loop-j.a j (drop (suc c.loop-j.j-index) g)
    ∙ rw (← c.symbol.ensures, m, add-one)

pub returns : goal.returns
returns c =
    let r = c.args.records in
    let e : drop c.loop-j.j-index c.args.group.now ≡ [] = drop_of_length-le c.args.group.now (omega arith) in
    sym (c.loop-j.invariant ∙ rw (e, group-end r.bytes.now r.index.now r.view) (answer-end (of address_in r) c.loop-j.a))
