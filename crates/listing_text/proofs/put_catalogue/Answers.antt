-- `listing_text::put_catalogue` meets its contract: the parts of the text, one behind the other.
use Rattle.listing_text.specs.Lines.{flat-text}
use Rattle.text.specs.Pushed.{then, same_text}
use Rattle.listing_text.proofs.put_catalogue.Goals as goal

pub returns : goal.returns
returns g c =
    let a = c.args in
    let n = g.row.N in
    let w = a.text.now in
    same_text n w (flat-text a.h a.programs.now a.functions.now a.maps.now a.bytes.now) (then n w _ _ (then n w _ _ (then n w _ _ c.put_top.ensures c.put_rows.ensures) c.put_rows-2.ensures) c.put_rows-3.ensures)
