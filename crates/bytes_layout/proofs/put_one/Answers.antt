-- `bytes_layout::put_one` meets its contract: by the part.
use Rattle.bytes_names.specs.Inside.{name-fits}
use Rattle.bytes_layout.proofs.put_one.Goals as goal

pub put_name-requires : goal.put_name-requires
put_name-requires c =
    let a = c.args in
    let e = c.in-Name.is in
    ((name-fits _ _ _ a.object.readable c.in-Name.which a.j (rw e at c.requires.0)).placed, rw e at c.requires.1)
