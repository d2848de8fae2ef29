-- `rows_maps::put_map_rows` meets its contract: the rows passed stand in front, and the two places are where the next name and the next own bytes lie.
use Rattle.std.proofs.Common.{arith, ◌∙◌}
use Rattle.rows_maps.specs.Rows.{place-next, own-next, rows_more}
use Rattle.rows_maps.proofs.put_map_rows.Goals as goal

pub loop-k-preserved : goal.loop-k-preserved
loop-k-preserved c =
    let a = c.args in
    let o = a.object.records in
    let r = c.map_row-r in
    let k = c.loop-k in
    let n = k.invariant in
    record {
      short = omega (arith, r.ensures.name-short);
      own-short = omega (arith, r.ensures.own-short);
      behind = place-next o.bytes.now o.index.now o.view a.numbers.now k.k r.result r.ensures.row c.loop-k-test.true a.at k.place n.behind;
      own-behind = own-next o.bytes.now o.index.now o.view a.numbers.now k.k r.result r.ensures.row c.loop-k-test.true a.own k.own_place n.own-behind;
      rows = c.put_map_row.ensures
          ∙ rows_more o.bytes.now o.index.now o.view a.numbers.now k.k r.result r.ensures.row c.loop-k-test.true a.at a.own k.place k.own_place n.behind n.own-behind a.out.now k.out (omega arith) n.rows;
    }
