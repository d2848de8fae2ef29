use Rattle.std.proofs.Common.{ℕ, List, ◌≡◌, ◌*◌, drop}
use Rattle.model.specs.Bytes.{each, records}
use Rattle.text.specs.Pushed.{pushed}
use Rattle.listing_text.proofs.put_rows.Given as goal

abbrev pub invariant-loop : goal.invariant-loop
invariant-loop g l =
    (l.rest ≡ drop (l.counter * g.T.Table.WIDTH) l.rows)
    × (l.text ≡ pushed g.row.N l.initial.text (each (g.T.Table.line l.bytes) (records (λ (r : List ℕ). r) g.T.Table.WIDTH l.counter l.rows)))
