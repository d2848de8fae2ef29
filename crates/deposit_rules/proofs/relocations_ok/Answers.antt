-- `deposit_rules::relocations_ok` meets its contract: the records passed keep their rules, so that all do where those to go do.
use mathlib.Core.Path.{sym, ◌∙◌}
use native.Mathlib.Omega.{arith}
use Rattle.model.specs.Deposit.{relocation_ok}
use Rattle.records.specs.Records.{deposit_relocation}
use Rattle.deposit_rules.specs.Walk.{all_from, all_end}
use Rattle.deposit_rules.proofs.relocations_ok.Goals as goal

pub returns-then-not-relocation_ok : goal.returns-then-not-relocation_ok
returns-then-not-relocation_ok c =
    let a = c.args in
    sym
    (c.loop-i.invariant
    ∙ all_from (deposit_relocation a.deposit.bytes.now a.deposit.head) a.deposit.head.relocations c.loop-i.i relocation_ok (omega arith)
    ∙ rw (← c.relocation.ensures, ← c.relocation_ok.ensures, c.if-not-relocation_ok.true))

pub loop-i-preserved : goal.loop-i-preserved
loop-i-preserved c =
    let a = c.args in
    c.loop-i.invariant
    ∙ all_from (deposit_relocation a.deposit.bytes.now a.deposit.head) a.deposit.head.relocations c.loop-i.i relocation_ok (omega arith)
    ∙ rw (← c.relocation.ensures, ← c.relocation_ok.ensures, c.if-not-relocation_ok.false)

pub returns : goal.returns
returns c =
    let a = c.args in
    sym (c.loop-i.invariant ∙ all_end (deposit_relocation a.deposit.bytes.now a.deposit.head) a.deposit.head.relocations c.loop-i.i relocation_ok (omega arith))
