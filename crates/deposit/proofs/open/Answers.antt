-- `deposit::open` meets its contract: number 1, and then what the stream says.
use Rattle.std.proofs.Common.{◌≡◌, [], Ok, refl, sym, ap, ◌∙◌, arith}
use Rattle.records.specs.View.{deposit_view}
use Rattle.deposit.specs.Open.{opened_of, framed, fine_end, opened_by, opened-1, opened-checked}
use Rattle.deposit.specs.Readable.{readable}
use Rattle.deposit.proofs.open.Goals as goal
use Rattle.deposit.proofs.open.Goals.{After-check_stream, In-Ok}

pub returns-then-not-frame_ok : goal.returns-then-not-frame_ok
returns-then-not-frame_ok c =
    rw c.without_place.ensures (opened-1 c.args.d.now (sym c.frame_ok.ensures ∙ c.if-not-frame_ok.true))

-- what the check of the stream answered
checked : (c : After-check_stream) → opened_of c.args.d.now ≡ opened_by c.check_stream.result c.new-deposit.result.head
checked c =
    rw (c.check_stream.ensures, c.new-deposit.ensures.bytes, c.new-deposit.ensures.head) (opened-checked c.args.d.now (sym c.frame_ok.ensures ∙ c.if-not-frame_ok.false))

pub returns-in-Err-Broken : goal.returns-in-Err-Broken
returns-in-Err-Broken c =
    let h = c.in-Err-Broken in
    rw c.without_place-in-Err-Broken.ensures (rw (h.is, h.field-0-is) at (checked (goal.at.returns-in-Err-Broken c).After-check_stream))

pub returns-in-Err-Btf : goal.returns-in-Err-Btf
returns-in-Err-Btf c =
    let h = c.in-Err-Btf in
    rw c.without_place-in-Err-Btf.ensures (rw (h.is, h.field-0-is) at (checked (goal.at.returns-in-Err-Btf c).After-check_stream))

pub deposit_view-requires : goal.deposit_view-requires
deposit_view-requires c =
    let d = c.args.d.now in
    let f = framed d (sym c.frame_ok.ensures ∙ c.if-not-frame_ok.false) in
    let e = rw c.new-deposit.ensures.bytes at (sym c.check_stream.ensures ∙ c.in-Ok.is) in
    omega (arith, fine_end d c.new-deposit.result.head e, f.most)

-- the view is that of the head
opened : (c : In-Ok) → opened_of c.args.d.now ≡ Ok (deposit_view c.new-deposit.result.head)
opened c = checked (goal.at.In-Ok c).After-check_stream ∙ ap (λ r. opened_by r c.new-deposit.result.head) c.in-Ok.is

pub invariant_of-result : goal.invariant_of-result
invariant_of-result c =
    record { readable = readable c.args.d.now [] _ (rw c.deposit_view.ensures (opened (goal.at.invariant_of-result c).In-Ok)) }

pub returns-in-Ok : goal.returns-in-Ok
returns-in-Ok c = (refl, refl, rw c.deposit_view.ensures (opened (goal.at.returns-in-Ok c).In-Ok))
