-- `elf::open` meets its contract.
use Rattle.std.proofs.Common.{sym, ◌∙◌}
use Rattle.std.proofs.lemmas.Result.{err_from_is_err_and}
use Rattle.elf.specs.Opened.{passes}
use Rattle.elf.specs.Told.{opens-refused, opens-broken, opens-btf, opens-view}
use Rattle.elf.proofs.open.Goals as goal

pub returns-in_err-l : goal.returns-in_err-l
returns-in_err-l c =
    let p = err_from_is_err_and c.from_residual.result c.from_residual.ensures.1 in
    rw (p.1, p.2) (opens-refused c.args.d.now c.args.t.now _ (sym c.in_err-l.was ∙ c.requires.0))

pub index-requires : goal.index-requires
index-requires c =
    let e = c.in_ok-l.was in
    (passes c.args.d.now c.in_ok-l.l (sym e ∙ c.requires.0), rw e at c.requires.1)

pub returns-in_err-index : goal.returns-in_err-index
returns-in_err-index c =
    let r = c.from_residual-in_err-index in
    let p = err_from_is_err_and r.result r.ensures.1 in
    let e = c.in_err-index.ensures in
    let q = passes c.args.d.now c.in_ok-l.l (sym c.in_ok-l.was ∙ c.requires.0) in
    rw (p.1, p.2, e.0) (opens-broken c.args.d.now c.in_ok-l.l q _ e.1)

pub returns-then-has_btf : goal.returns-then-has_btf
returns-then-has_btf c =
    let e = c.in_ok-index.ensures in
    let q = passes c.args.d.now c.in_ok-l.l (sym c.in_ok-l.was ∙ c.requires.0) in
    rw c.without_place.ensures (opens-btf c.args.d.now c.in_ok-l.l q _ e.0 e.1 (sym c.has_btf.ensures ∙ c.if-has_btf.true))

pub returns : goal.returns
returns c =
    let e = c.in_ok-index.ensures in
    let q = passes c.args.d.now c.in_ok-l.l (sym c.in_ok-l.was ∙ c.requires.0) in
    opens-view c.args.d.now c.in_ok-l.l q _ e.0 e.1 (sym c.has_btf.ensures ∙ c.if-has_btf.false)
