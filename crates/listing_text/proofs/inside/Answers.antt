-- `listing_text::inside` meets its contract: the part is cut at the list's end.
use Rattle.std.proofs.Common.{ℕ, List, ◌≡◌, ◌-◌, length, take, drop, take_all, length-drop, arith}
use Rattle.listing_text.specs.Spans.{cut-part}
use Rattle.listing_text.proofs.inside.Goals as goal

pub returns : goal.returns
returns c =
    let b : List ℕ = c.args.b.now in
    let m : ℕ = c.min.result in
    let rest : take (length b - m) (drop m b) ≡ drop m b = take_all (length b - m) (drop m b) (rw length-drop (omega arith)) in
    let n = rw (rest, c.min.ensures) at c.min-2.ensures in
    rw (rest, n, c.min.ensures) (cut-part b c.args.from c.args.n)
