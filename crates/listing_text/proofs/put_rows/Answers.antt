-- `listing_text::put_rows` meets its contract: the lines of the rows passed are put, and the next follows them.
use Rattle.std.proofs.Common.{ℕ, List, ◌≡◌, refl, ◌∙◌, ◌+◌, ◌*◌, ◌≤◌, length, drop, zero-mul, arith}
use Rattle.model.specs.Bytes.{each, records, part}
use Rattle.text.specs.Pushed.{none}
use Rattle.listing_text.specs.Rows.{row_put, row-inside, next-row}
use Rattle.listing_text.proofs.put_rows.Goals as goal

pub loop-init : goal.loop-init
unfolding each records
loop-init g c = (rw zero-mul, none g.row.N c.args.text.now)

pub split_at-requires : goal.split_at-requires
split_at-requires g c =
    rw (c.WIDTH.ensures, c.loop.invariant.0) (row-inside g.T.Table.WIDTH c.loop.counter c.args.n c.args.rows.now c.loop-test.true c.requires.1)

pub put_line-requires : goal.put_line-requires
put_line-requires g c = (let h = c.requires.0 in omega arith, c.split_at.ensures.front_len ∙ c.WIDTH.ensures)

pub loop-preserved : goal.loop-preserved
loop-preserved g c =
    let w : ℕ = g.T.Table.WIDTH in
    let k : ℕ = c.loop.counter in
    let s : List ℕ = c.args.rows.now in
    let row : c.split_at.result.0.now ≡ part s (k * w) w = c.split_at.ensures.front ∙ rw (c.WIDTH.ensures, c.loop.invariant.0) in
    let behind : c.split_at.result.1.now ≡ drop ((k + 1) * w) s = c.split_at.ensures.back ∙ rw (c.WIDTH.ensures, c.loop.invariant.0) (next-row w k s) in
    let put = rw row at c.put_line.ensures in
    (behind, row_put (g.T.Table.line c.args.bytes.now) (λ (r : List ℕ). r) g.row.N w k s c.args.text.now c.loop.invariant.1 put)

pub returns : goal.returns
returns g c =
    let e : c.loop.counter ≡ c.args.n = omega arith in
    rw e at c.loop.invariant.1
