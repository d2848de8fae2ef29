-- `listing_text::push_refusal` meets its contract: the line's pieces, one behind the other.
use Rattle.listing_text.specs.Lines.{refusal-text}
use Rattle.text.specs.Pushed.{then, same_text}
use Rattle.listing_text.proofs.push_refusal.Goals as goal

pub returns : goal.returns
returns g c =
    let a = c.args in
    let n = g.row.N in
    let w = a.text.now in
    same_text n w (rw (c.from.ensures, c.from-2.ensures, c.from-3.ensures) (refusal-text a.r)) (then n w _ _ (then n w _ _ (then n w _ _ (then n w _ _ c.push.ensures c.put_number.ensures) c.put_number-2.ensures) c.put_number-3.ensures) c.push-2.ensures)
