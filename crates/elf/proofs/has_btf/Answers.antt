-- `elf::has_btf` meets its contract: the cursor is past as many sections as were looked at.
use Rattle.std.proofs.Common.{sym, ◌∙◌, arith}
use Rattle.records.specs.Records.{step-record}
use Rattle.elf.specs.Btf.{btf-next}
use Rattle.elf.proofs.has_btf.Goals as goal

pub loop-i-preserved : goal.loop-i-preserved
loop-i-preserved c =
    let a = c.args in
    let s = c.loop-i.c in
    let m = step-record s c.in-Some.i c.in-Some.next (sym c.next.ensures ∙ c.in-Some.is) in (
      rw m.1 (omega (arith, m.2)),
      rw m.1 c.loop-i.invariant.1,
      rw m.1 (c.loop-i.invariant.2 ∙ btf-next a.records.bytes.now a.records.index.now a.records.view s.at (rw c.loop-i.invariant.1 at m.2) ∙ rw (← m.0, ← c.is_btf.ensures, c.if-is_btf.false)),
    )
