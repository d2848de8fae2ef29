use mathlib.Core.Path.{◌≡◌}
use lib.ListN.{length}
use Rattle.rows_functions.specs.Stored.{rest_made}
use Rattle.rows_numbers.specs.Flat.{numbers_stored}
use Rattle.rows_numbers.proofs.fill_numbers.Given as goal

abbrev pub invariant-loop-i : goal.invariant-loop-i
invariant-loop-i l =
    let r = l.object.records in
    (length l.numbers ≡ length l.initial.numbers)
    × (l.at ≡ rest_made r.bytes.now r.index.now r.view l.symbols 0 l.initial.at l.i)
    × (l.numbers ≡ numbers_stored r.bytes.now r.index.now r.view l.symbols l.initial.at l.initial.numbers l.i)
