-- `rows_sections::put_section_rows` meets its contract: the rows passed stand in front, and `place` is where the next name lies.
use Rattle.std.proofs.Common.{arith, ◌∙◌}
use Rattle.rows_sections.specs.Rows.{place-next, rows_more}
use Rattle.rows_sections.proofs.put_section_rows.Goals as goal

pub loop-k-preserved : goal.loop-k-preserved
loop-k-preserved c =
    let r = c.args.records in
    let s = c.section-s in
    let k = c.loop-k in
    record {
      short = omega arith;
      behind = rw c.from-len.ensures
          (place-next r.bytes.now r.index.now r.view c.args.numbers.now c.args.at k.k k.place s.result s.ensures k.invariant.behind c.loop-k-test.true);
      rows = c.put_row.ensures
          ∙ rw (c.from-len.ensures, c.from.ensures)
          (rows_more r.bytes.now r.index.now r.view c.args.numbers.now c.args.at k.k k.place s.result s.ensures k.invariant.behind c.loop-k-test.true c.args.out.now k.out (omega arith) k.invariant.rows);
    }
