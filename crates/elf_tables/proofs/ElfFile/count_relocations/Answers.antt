-- `elf_tables::ElfFile::count_relocations` meets its contract: the headers and tables passed keep their rules, and their entries are counted.
use mathlib.Core.Path.{◌≡◌, sym, ap, ◌∙◌}
use mathlib.Core.Bool.{true, cond}
use Prim.Native.Nat.{◌+◌, ◌≤◌}
use native.Mathlib.Omega.{arith}
use borrow.Author.Count.{below_none, below_more}
use borrow.Author.Tests.{le-leb, lt-leb}
use lib.ListN.{length}
use Rattle.model.specs.Elf.{entry_count}
use Rattle.model.specs.ElfRefusals.{header_ok, reloc_table_ok}
use Rattle.elf_header.specs.Headers.{header_in}
use Rattle.elf_header.specs.Used.{used_by}
use Rattle.elf_tables.specs.Numbered.{sections_by}
use Rattle.elf_tables.specs.Checked.{used_ok, counted_by, entries_fit, entries_to, entries_none, entries-more, count-header, count-table, count-all, few-entries}
use Rattle.elf_tables.proofs.ElfFile.count_relocations.Goals as goal
use Rattle.elf_tables.proofs.ElfFile.count_relocations.Goals.{After-loop-i, Else-not-header_ok, Joined-in_use, then-in_use+else-not-reloc_table_ok, else-in_use}

-- the header at hand keeps its rules, and has few entries
passes : (c : Else-not-header_ok) →
    let s = c.args.self.sections in
    header_ok (length s.bytes.now) (header_in s.bytes.now s.headers c.loop-i.i) ≡ true
passes c = sym c.header_ok.ensures ∙ c.if-not-header_ok.false

fewer : (c : Else-not-header_ok) →
    let s = c.args.self.sections in
    entry_count (header_in s.bytes.now s.headers c.loop-i.i) ≤ 16777216
fewer c = let s = c.args.self.sections in few-entries (length s.bytes.now) _ (passes c)

-- what the turn leaves
turn : (c : Joined-in_use) →
    let s = c.args.self.sections in
    let t = c.args.self.table in
    let x = header_in s.bytes.now s.headers c.loop-i.i in
    (used_ok t (reloc_table_ok (sections_by s.bytes.now s.headers)) x ≡ true)
    × (c.if-in_use.n ≡ c.loop-i.n + cond (used_by t x) (entry_count x) 0)
    × (c.if-in_use.n ≤ c.loop-i.n + 16777216)
turn c =
    let s = c.args.self.sections in
    let x = header_in s.bytes.now s.headers c.loop-i.i in
    let few : entry_count x ≤ 16777216 = few-entries (length s.bytes.now) x (sym c.header_ok.ensures ∙ c.if-not-header_ok.false) in
    let u = c.in_use.ensures in
    elim c.if-in_use.branch [
      | then-in_use+else-not-reloc_table_ok w ↦ (
        rw (← u, w.if-in_use.true, ← w.reloc_table_ok.ensures, w.if-not-reloc_table_ok.false),
        w.n-is ∙ rw (← u, w.if-in_use.true, w.entry_count-n.ensures),
        omega (arith, w.n-is, w.entry_count-n.ensures, few),
      )
      | else-in_use w ↦ (rw (← u, w.if-in_use.false), w.n-is ∙ rw (← u, w.if-in_use.false) (omega arith), omega (arith, w.n-is))
    ]

-- what all turns leave
total : (c : After-loop-i) →
    let s = c.args.self.sections in
    let t = c.args.self.table in
    (counted_by s.bytes.now s.headers t ≡ entries_fit (entries_to s.bytes.now s.headers t s.headers.sections))
    × (entries_to s.bytes.now s.headers t s.headers.sections ≡ c.loop-i.n)
total c =
    let s = c.args.self.sections in
    let t = c.args.self.table in
    let v = c.loop-i.invariant in
    let e : s.headers.sections ≡ c.loop-i.i = omega arith in (
      count-all s.bytes.now s.headers t (λ k h. v.headers k (omega arith)) (λ k h. v.tables k (omega arith)),
      ap (entries_to s.bytes.now s.headers t) e ∙ sym v.counted,
    )

pub loop-i-init : goal.loop-i-init
loop-i-init c =
    let s = c.args.self.sections in
    record { headers = below_none _; tables = below_none _; counted = sym (entries_none s.bytes.now s.headers c.args.self.table); few = omega arith }

pub returns-then-not-header_ok : goal.returns-then-not-header_ok
returns-then-not-header_ok c =
    let s = c.args.self.sections in
    sym
    (count-header s.bytes.now s.headers c.args.self.table c.loop-i.i c.loop-i-test.true
    (sym c.header_ok.ensures ∙ c.if-not-header_ok.true))

pub returns-then-not-reloc_table_ok : goal.returns-then-not-reloc_table_ok
returns-then-not-reloc_table_ok c =
    let s = c.args.self.sections in
    sym
    (count-table s.bytes.now s.headers c.args.self.table c.loop-i.i c.loop-i-test.true
    (rw (← c.in_use.ensures, c.if-in_use.true, ← c.reloc_table_ok.ensures, c.if-not-reloc_table_ok.true)))

pub overflow_add-n : goal.overflow_add-n
overflow_add-n c =
    omega (arith, c.entry_count-n.ensures, fewer (goal.at.overflow_add-n c).Else-not-header_ok, c.loop-i.invariant.few)

pub loop-i-preserved : goal.loop-i-preserved
loop-i-preserved c =
    let s = c.args.self.sections in
    let v = c.loop-i.invariant in
    let m = turn (goal.at.loop-i-preserved c).Joined-in_use in
    record {
      headers = below_more _ _ v.headers (passes (goal.at.loop-i-preserved c).Else-not-header_ok);
      tables = below_more _ _ v.tables m.0;
      counted = m.1 ∙ rw v.counted (sym (entries-more s.bytes.now s.headers c.args.self.table c.loop-i.i));
      few = omega (arith, m.2, v.few);
    }

pub returns-then-n-gt65536 : goal.returns-then-n-gt65536
returns-then-n-gt65536 c = let t = total (goal.at.returns-then-n-gt65536 c).After-loop-i in sym (t.0 ∙ rw (t.1, lt-leb _ _ c.if-n-gt65536.true))

pub returns : goal.returns
returns c = let t = total (goal.at.returns c).After-loop-i in sym (t.0 ∙ rw (t.1, le-leb _ _ c.if-n-gt65536.false))
