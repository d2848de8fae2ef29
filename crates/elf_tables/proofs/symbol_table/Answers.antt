-- `elf_tables::symbol_table` meets its contract: no section passed is a symbol table.
use mathlib.Core.Path.{sym, ◌∙◌}
use native.Mathlib.Omega.{arith}
use borrow.Author.Count.{below_more}
use borrow.Author.Tests.{eq-eqb, ne_eqb}
use Rattle.model.specs.Elf.{header_of, is_type}
use Rattle.elf_header.specs.Headers.{header_in}
use Rattle.elf_tables.specs.Walks.{find_none, find_first}
use Rattle.elf_tables.specs.Numbered.{table_by}
use Rattle.elf_tables.proofs.symbol_table.Goals as goal

pub returns-then-section_type-eq2 : goal.returns-then-section_type-eq2
unfolding table_by header_of
returns-then-section_type-eq2 c =
    let s = c.args.sections in
    rw
    (find_first (header_in s.bytes.now s.headers) (is_type 2) s.headers.sections c.loop-i.i (omega arith) c.loop-i.invariant
    (eq-eqb _ _ (sym c.section_type.ensures ∙ c.if-section_type-eq2.true)))
    (omega arith)

pub loop-i-preserved : goal.loop-i-preserved
loop-i-preserved c =
    below_more _ _ c.loop-i.invariant (ne_eqb _ _ (λ e. c.if-section_type-eq2.false (c.section_type.ensures ∙ e)))

pub returns : goal.returns
unfolding table_by
returns c =
    let s = c.args.sections in
    rw (find_none (header_in s.bytes.now s.headers) (is_type 2) s.headers.sections (λ k h. c.loop-i.invariant k (omega arith)))
