-- `load_image::fill_maps` meets its contract: the rows are stored, and what stands behind them is cleared.
use Rattle.std.proofs.Common.{ap, ◌∙◌, ◌*◌, arith}
use Rattle.records.specs.Of.{of}
use Rattle.bytes_layout.specs.Parts.{catalogue}
use Rattle.bytes_layout.specs.Held.{parts-inside, all-maps-fit}
use Rattle.load_image.specs.Filled.{filled-behind}
use Rattle.load_image.specs.Tables.{count-maps, long-maps, rows-of-maps}
use Rattle.load_image.proofs.fill_maps.Goals as goal

pub put_map_rows-requires : goal.put_map_rows-requires
put_map_rows-requires c =
    let at = c.requires.3 in
    let i = parts-inside (of catalogue c.args.object.records) in
    (omega (arith, c.requires.2), omega (arith, at, i.maps), omega (arith, at, i.own), c.requires.4, all-maps-fit c.args.object.readable c.requires.0 c.requires.1)

pub returns : goal.returns
returns c =
    let r = c.args.object.readable in
    let at = c.requires.3 in
    filled-behind _ c.args.out.now _ _ _ (long-maps _ ∙ ap (λ n. n * 27) (count-maps r c.requires.1)) c.requires.4
    (c.put_map_rows.ensures ∙ rw (rows-of-maps r c.requires.1 _ _ at.maps, at.own)) (c.fill.ensures.after (λ y e. e))
