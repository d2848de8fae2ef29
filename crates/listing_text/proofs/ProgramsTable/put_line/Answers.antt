-- the row's printer meets its contract: the line's pieces, one behind the other.
use Rattle.listing_text.specs.Lines.{program-text}
use Rattle.text.specs.Pushed.{then, same_text}
use Rattle.listing_text.proofs.ProgramsTable.put_line.Goals as goal

pub returns : goal.returns
returns g c =
    let a = c.args in
    let n = g.row.N in
    let w = a.text.now in
    same_text n w (program-text a.bytes.now a.row.now) (then n w _ _ (then n w _ _ (then n w _ _ (then n w _ _ (then n w _ _ (then n w _ _ c.push.ensures c.put_part.ensures) c.push-2.ensures) c.put_variant.ensures) c.put_number.ensures) c.put_number-2.ensures) c.push-3.ensures)
