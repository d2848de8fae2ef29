use Rattle.std.proofs.Common.{◌≡◌}
use Rattle.rows_functions.specs.Stored.{rest_made, stored}
use Rattle.rows_functions.proofs.fill_functions.Given as goal

abbrev pub invariant-loop-i : goal.invariant-loop-i
invariant-loop-i l =
    let r = l.object.records in
    (l.at ≡ rest_made r.bytes.now r.index.now r.view l.symbols 0 l.fn.rows l.i) × (l.functions ≡ stored r.bytes.now r.index.now r.view l.symbols l.fn.rows l.fn.functions l.i)
