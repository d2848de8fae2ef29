-- `bytes_layout::layout` meets its contract: each place is the one before and the length of what lies there.
use Rattle.std.specs.Prelude.{◌≤◌}
use Rattle.std.proofs.Common.{◌∙◌, arith}
use Rattle.bytes_layout.specs.Licence.{length-by-place, licence-short}
use Rattle.bytes_layout.specs.Held.{sections-listed, programs-listed, functions-listed, code-listed, maps-listed, places-are}
use Rattle.bytes_layout.proofs.layout.Goals as goal

pub total-requires : goal.total-requires
total-requires c = let a = c.args.accepted in sections-listed a.object.readable a.accepted a.held

pub total-requires-2 : goal.total-requires-2
total-requires-2 c = let a = c.args.accepted in programs-listed a.object.readable a.accepted a.held

pub total-requires-3 : goal.total-requires-3
total-requires-3 c = let a = c.args.accepted in functions-listed a.object.readable a.accepted a.held

pub total-requires-4 : goal.total-requires-4
total-requires-4 c = let a = c.args.accepted in code-listed a.object.readable a.accepted a.held

pub total-requires-5 : goal.total-requires-5
total-requires-5 c = let a = c.args.accepted in maps-listed a.object.readable a.accepted a.held

pub returns : goal.returns
returns c =
    let a = c.args.accepted in
    let r = a.object.readable in
    let n = c.license_length-sections in
    let long = n.ensures ∙ length-by-place _ _ _ a.license a.held.license in
    let short : n.result ≤ 16777216 = omega (arith, long, licence-short _ _ _ r) in
    places-are r a.accepted a.held _ _ _ _ _ _ _ long c.total.ensures.0 c.total-2.ensures.0 c.total-3.ensures.0 c.total-4.ensures.0 c.total-5.ensures.0 c.total-6.ensures.0
    (omega (arith, short, c.total.ensures.1, c.total-2.ensures.1, c.total-3.ensures.1, c.total-4.ensures.1, c.total-5.ensures.1, c.total-6.ensures.1))
