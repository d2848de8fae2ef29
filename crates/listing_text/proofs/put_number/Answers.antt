-- `listing_text::put_number` meets its contract: the space, and the decimal behind it.
use Rattle.text.specs.Pushed.{then}
use Rattle.listing_text.proofs.put_number.Goals as goal

pub returns : goal.returns
returns g c =
    let a = c.args in
    let n = g.row.N in
    let w = a.text.now in
    then n w _ _ c.push.ensures c.push_number.ensures
