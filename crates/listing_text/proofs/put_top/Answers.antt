-- `listing_text::put_top` meets its contract: the pieces of the two lines, one behind the other.
use Rattle.std.specs.Prelude.{take}
use Rattle.listing_text.specs.Lines.{top-text}
use Rattle.text.specs.Pushed.{then, same_text}
use Rattle.listing_text.proofs.put_top.Goals as goal

pub returns : goal.returns
returns g c =
    let a = c.args in
    let n = g.row.N in
    let w = a.text.now in
    same_text n w (top-text (take a.license a.bytes.now) a.version) (then n w _ _ (then n w _ _ (then n w _ _ (then n w _ _ c.push.ensures c.put_part.ensures) c.push-2.ensures) c.put_version.ensures) c.push-3.ensures)
