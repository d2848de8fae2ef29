-- `Tables::symbols_ok` meets its contract: the records passed keep their rules, so that all do where those to go do.
use mathlib.Core.Path.{sym, ◌∙◌}
use native.Mathlib.Omega.{arith}
use borrow.Author.Tests.{lt-ltb, le-ltb}
use Rattle.records.specs.Records.{deposit_symbol}
use Rattle.deposit_rules.specs.Rules.{symbol_ok_at}
use Rattle.deposit_rules.specs.Walk.{ruled-from, ruled-end}
use Rattle.deposit_rules.proofs.tables.Tables.symbols_ok.Goals as goal
use Rattle.deposit_rules.proofs.tables.Tables.symbols_ok.Goals.{then-s-last-via-then-s-last, then-s-last-via-else-s-last+then-not-symbol_ok}

pub returns-then-s-last : goal.returns-then-s-last
returns-then-s-last c =
    let d = c.args.self.deposit.bytes.now in
    let h = c.args.self.deposit.head in
    let next = c.loop-i.invariant ∙ ruled-from (deposit_symbol d h) h.symbols c.loop-i.i (λ r. r.index.0) (symbol_ok_at d h) c.loop-i.last (omega arith) in
    elim c.then-s-last.branch [
      | then-s-last-via-then-s-last w ↦ sym (next ∙ rw (← c.symbol-s.ensures, le-ltb _ _ w.if-s-last.true))
      | then-s-last-via-else-s-last+then-not-symbol_ok w ↦
          sym (next ∙ rw (← c.symbol-s.ensures, lt-ltb _ _ w.if-s-last.false, ← w.symbol_ok.ensures, w.if-not-symbol_ok.true))
    ]

pub loop-i-preserved : goal.loop-i-preserved
loop-i-preserved c =
    let d = c.args.self.deposit.bytes.now in
    let h = c.args.self.deposit.head in
    c.loop-i.invariant
    ∙ ruled-from (deposit_symbol d h) h.symbols c.loop-i.i (λ r. r.index.0) (symbol_ok_at d h) c.loop-i.last (omega arith)
    ∙ rw (← c.symbol-s.ensures, lt-ltb _ _ c.if-s-last.false, ← c.symbol_ok.ensures, c.if-not-symbol_ok.false)

pub returns : goal.returns
returns c =
    let d = c.args.self.deposit.bytes.now in
    let h = c.args.self.deposit.head in
    sym (c.loop-i.invariant ∙ ruled-end (deposit_symbol d h) h.symbols c.loop-i.i (λ r. r.index.0) (symbol_ok_at d h) c.loop-i.last (omega arith))
