-- `elf_tables::ElfFile::used_entries_ok` meets its contract: each section passed is not in use, or its entry size is right.
use mathlib.Core.Path.{sym, ◌∙◌}
use native.Mathlib.Omega.{arith}
use borrow.Author.Count.{below_more}
use Rattle.model.specs.ElfRefusals.{entry_ok}
use Rattle.elf_header.specs.Headers.{header_in}
use Rattle.elf_header.specs.Used.{used_by}
use Rattle.elf_laws.specs.All.{all-of-kept, all-tab}
use Rattle.elf_tables.specs.Walks.{all-not}
use Rattle.elf_tables.specs.Numbered.{sections_by}
use Rattle.elf_tables.specs.Checked.{used_ok}
use Rattle.elf_tables.proofs.ElfFile.used_entries_ok.Goals as goal
use Rattle.elf_tables.proofs.ElfFile.used_entries_ok.Goals.{else-in_use-via-then-in_use+else-not-entry_ok, else-in_use-via-else-in_use}

pub returns-then-not-entry_ok : goal.returns-then-not-entry_ok
returns-then-not-entry_ok c =
    let s = c.args.self.sections in
    let t = c.args.self.table in
    sym
    (all-of-kept (used_by t) (entry_ok s.headers.order) (sections_by s.bytes.now s.headers)
    ∙ all-not (header_in s.bytes.now s.headers) (used_ok t (entry_ok s.headers.order)) s.headers.sections c.loop-i.i c.loop-i-test.true
    (rw (← c.in_use.ensures, c.if-in_use.true, ← c.entry_ok.ensures, c.if-not-entry_ok.true)))

pub loop-i-preserved : goal.loop-i-preserved
loop-i-preserved c =
    below_more _ _ c.loop-i.invariant
    (elim c.else-in_use.branch [
      | else-in_use-via-then-in_use+else-not-entry_ok w ↦ rw (← c.in_use.ensures, w.if-in_use.true, ← w.entry_ok.ensures, w.if-not-entry_ok.false)
      | else-in_use-via-else-in_use w ↦ rw (← c.in_use.ensures, w.if-in_use.false)
    ])

pub returns : goal.returns
returns c =
    let s = c.args.self.sections in
    let t = c.args.self.table in
    sym
    (all-of-kept (used_by t) (entry_ok s.headers.order) (sections_by s.bytes.now s.headers)
    ∙ all-tab (header_in s.bytes.now s.headers) (used_ok t (entry_ok s.headers.order)) s.headers.sections (λ k h. c.loop-i.invariant k (omega arith)))
