-- `rows_programs::put_program_rows` meets its contract: the rows passed stand in front, and `place` is where the next name lies.
use Rattle.std.proofs.Common.{arith, ◌∙◌}
use Rattle.rows_programs.specs.Rows.{place-next, rows_more}
use Rattle.rows_programs.proofs.put_program_rows.Goals as goal

pub loop-k-preserved : goal.loop-k-preserved
loop-k-preserved c =
    let r = c.args.object.records in
    let row = c.program_row-r in
    let k = c.loop-k in
    record {
      short = omega arith;
      behind = place-next r.bytes.now r.index.now r.view c.args.numbers.now c.args.at k.k k.place row.result row.ensures.0 k.invariant.behind c.loop-k-test.true;
      rows = c.put_row.ensures
          ∙ rows_more r.bytes.now r.index.now r.view c.args.numbers.now c.args.at k.k k.place row.result row.ensures.0 k.invariant.behind c.loop-k-test.true c.args.out.now k.out (omega arith) k.invariant.rows;
    }
