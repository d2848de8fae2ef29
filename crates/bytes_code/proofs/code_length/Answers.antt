-- `bytes_code::code_length` meets its contract: the code of a function that fits its section has as many bytes as its symbol's size says.
use Rattle.std.proofs.Common.{sym}
use Rattle.records.specs.View.{gap_of}
use Rattle.bytes_code.specs.Code.{size_small, code-length}
use Rattle.bytes_code.proofs.code_length.Goals as goal

pub returns : goal.returns
returns c =
    let r = c.args.object.records in
    let small = c.bytes_fit.ensures (gap_of r.view) in
    rw c.symbol.ensures
    (sym (code-length r.bytes.now r.index.now r.view c.args.j c.requires small), size_small r.bytes.now r.index.now r.view c.args.j c.requires c.args.object.readable)
