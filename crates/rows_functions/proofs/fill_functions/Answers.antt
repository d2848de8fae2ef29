-- `rows_functions::fill_functions` meets its contract: the rows passed are stored, and the rest is as it was.
use Rattle.std.proofs.Common.{◌≡◌, ◌<◌, length, ◌∙◌, sym, arith}
use Rattle.rows_functions.specs.Stored.{rest-none, rest-next, stored-none, stored_next, stored-all}
use Rattle.rows_functions.proofs.fill_functions.Goals as goal

pub loop-i-init : goal.loop-i-init
loop-i-init c =
    let a = c.args in
    let r = a.object.records in
    (sym (rest-none r.bytes.now r.index.now r.view a.symbols.now a.rows), sym (stored-none r.bytes.now r.index.now r.view a.symbols.now a.rows a.functions.now))

pub loop-i-preserved : goal.loop-i-preserved
loop-i-preserved c =
    let a = c.args in
    let r = a.object.records in
    let i = c.loop-i.i in
    let l : i < length a.functions.now = omega arith in
    let e = c.function_row-m.ensures in
    let p = c.loop-i.invariant.0 in
    let s = c.loop-i.invariant.1 in
    (rw (e, p, rest-next r.bytes.now r.index.now r.view a.symbols.now a.rows i), rw (s, e, p, stored_next r.bytes.now r.index.now r.view a.symbols.now a.rows a.functions.now i l))

pub returns : goal.returns
returns c =
    let a = c.args in
    let r = a.object.records in
    let e : c.loop-i.i ≡ length a.functions.now = omega arith in
    c.loop-i.invariant.1 ∙ rw e (stored-all r.bytes.now r.index.now r.view a.symbols.now a.rows a.functions.now)
