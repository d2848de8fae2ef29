-- `elf_tables::check` meets its contract: what is read of the header is the file, and 25 goes before 26.
use mathlib.Core.Path.{◌≡◌, sym, ap, ◌∙◌}
use Rattle.std.specs.Prelude.{Ok}
use Rattle.elf_header.specs.Headers.{file_header_of, headers_in}
use Rattle.elf_tables.specs.Numbered.{table_by, file_by}
use Rattle.elf_tables.specs.Checked.{kind_by, tables_by}
use Rattle.elf_tables.specs.Placed.{layout_by, in_reach}
use Rattle.elf_tables.specs.Answered.{whole_file, answer_by, checked-by, tables-ok}
use Rattle.elf_tables.proofs.check.Goals as goal
use Rattle.elf_tables.proofs.check.Goals.{After-check_tables, After-kind_ok}

kind : (c : After-kind_ok) →
    let d = c.args.d.now in
    c.kind_ok.result ≡ kind_by d (headers_in d) (table_by d (headers_in d))
kind c =
    let e = c.read-file.ensures in
    c.kind_ok.ensures ∙ (λ i. kind_by (e.bytes i) (e.headers i) (e.table i))

tables : (c : After-check_tables) →
    let d = c.args.d.now in
    c.check_tables.result ≡ tables_by d (whole_file d)
tables c =
    let e = c.read-file.ensures in
    c.check_tables.ensures ∙ (λ i. tables_by (e.bytes i) (file_by (e.bytes i) (e.header i) (e.headers i) (e.table i)))

pub returns-then-not-kind_ok : goal.returns-then-not-kind_ok
returns-then-not-kind_ok c =
    sym (checked-by c.args.d.now ∙ rw (← kind (goal.at.returns-then-not-kind_ok c).After-kind_ok, c.if-not-kind_ok.true, c.without_place.ensures))

pub layout-requires : goal.layout-requires
layout-requires c =
    let d = c.args.d.now in
    let e = c.read-file.ensures in
    rw (e.bytes, e.header, e.headers, e.table)
    (in_reach d (file_header_of d) (tables-ok d (whole_file d) c.in-Some.relocations (sym (tables (goal.at.layout-requires c).After-check_tables) ∙ c.in-Some.is)))

pub returns-in-Some : goal.returns-in-Some
unfolding answer_by
returns-in-Some c =
    let e = c.read-file.ensures in
    ap Ok (c.layout.ensures ∙ (λ i. layout_by (e.headers i) (file_by (e.bytes i) (e.header i) (e.headers i) (e.table i)) (e.table i) c.in-Some.relocations))
    ∙ sym (checked-by c.args.d.now ∙ rw (← kind (goal.at.returns-in-Some c).After-kind_ok, c.if-not-kind_ok.false, ← tables (goal.at.returns-in-Some c).After-check_tables, c.in-Some.is))

pub returns-in-None : goal.returns-in-None
unfolding answer_by
returns-in-None c =
    sym (checked-by c.args.d.now ∙ rw (← kind (goal.at.returns-in-None c).After-kind_ok, c.if-not-kind_ok.false, ← tables (goal.at.returns-in-None c).After-check_tables, c.in-None.is, c.without_place-in-None.ensures))
