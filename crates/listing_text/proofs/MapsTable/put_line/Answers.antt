-- a map's printer meets its contract: the line's pieces, one behind the other.
use Rattle.listing_text.specs.Lines.{map-text}
use Rattle.std.specs.Prelude.{◌≡◌, length, get_or}
use Rattle.std.proofs.Common.{ap}
use Rattle.model.specs.Bytes.{part}
use Rattle.text.specs.Pushed.{then, same_text}
use Rattle.listing_text.proofs.MapsTable.put_line.Goals as goal

pub returns : goal.returns
returns g c =
    let a = c.args in
    let n = g.row.N in
    let w = a.text.now in
    let m : length c.inside.result.now ≡ length (part a.bytes.now (get_or a.row.now 5 0) (get_or a.row.now 6 0)) = ap length c.inside.ensures in
    same_text n w (rw m (map-text a.bytes.now a.row.now)) (then n w _ _ (then n w _ _ (then n w _ _ (then n w _ _ (then n w _ _ c.push.ensures c.put_part.ensures) c.put_number.ensures) c.put_number-2.ensures) c.put_number-3.ensures) c.push-2.ensures)
