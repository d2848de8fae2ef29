-- `bytes_maps::put_own` meets its contract: there is room for the data, and they lie inside the stream.
use Rattle.std.proofs.Common.{arith, length-take-le}
use Rattle.bytes_maps.specs.Own.{owned, data-fits}
use Rattle.bytes_maps.proofs.put_own.Goals as goal

pub copy_span-requires : goal.copy_span-requires
copy_span-requires c =
    let r = c.args.object.records in
    let n = c.data-data.ensures in
    let fits = data-fits r.bytes.now r.index.now r.view c.args.n c.args.object.readable c.in-Bytes.e c.in-Bytes.ensures in (
      rw (n.lent, n.gap, n.at, n.len) fits.placed,
      length-take-le c.data-data.result.len c.args.out.now (grind (arith, owned)),
    )
