-- `bytes_names::put_name` meets its contract: there is room for the name, and it lies inside the stream.
use Rattle.std.proofs.Common.{arith, length-take-le}
use Rattle.bytes_names.specs.Pieces.{named}
use Rattle.bytes_names.proofs.put_name.Goals as goal

pub copy_span-requires : goal.copy_span-requires
copy_span-requires c =
    let n = c.name-name.ensures in (
      rw (n.lent, n.gap, n.at, n.len, c.extent.ensures) c.requires.0,
      length-take-le c.name-name.result.len c.args.out.now (grind (arith, named)),
    )
