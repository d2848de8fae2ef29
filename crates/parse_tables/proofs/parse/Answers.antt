-- `parse_tables::parse` meets its contract: what the pass over the sections refuses, else the four tables.
use Rattle.parse_tables.specs.Parsed.{parsed-refused, parsed-numbers}
use Rattle.std.proofs.lemmas.Result.{err_from_is_err_and}
use lib.Seq.{length_front, length-take-le}
use native.Mathlib.Omega.{arith}
use Rattle.parse_tables.proofs.parse.Goals as goal

pub parse_object-requires : goal.parse_object-requires
parse_object-requires c =
    let a = c.args in
    let q = c.requires in
    (q.5, length-take-le a.object.records.view.symbols a.symbols.now (omega (arith, q.4)), q.0, q.1, q.2, q.3)

pub number_tables-counts-requires : goal.number_tables-counts-requires
number_tables-counts-requires c = (
  rw c.in_ok-n.was at c.parse_object.ensures,
  rw (length_front c.args.symbols.now c.parse_object.new.symbols c.args.object.records.view.symbols c.parse_object.auto.symbols) c.requires.4,
)

pub returns-in_err-n : goal.returns-in_err-n
returns-in_err-n c =
    let a = c.args in
    let p = err_from_is_err_and c.from_residual.result c.from_residual.ensures.1 in
    rw (p.1, p.2) (parsed-refused a.object.records.bytes.now a.object.records.index.now a.object.records.view _ _ _ _ _ (rw c.in_err-n.was at c.parse_object.ensures))

pub returns : goal.returns
returns c =
    let a = c.args in
    let found = rw c.in_ok-n.was at c.parse_object.ensures in
    parsed-numbers a.object.records.bytes.now a.object.records.index.now a.object.records.view _ _ _ _ c.number_tables-counts.result found.fine c.number_tables-counts.ensures.0 c.number_tables-counts.ensures.1
