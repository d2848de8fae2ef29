use mathlib.Core.Path.{◌≡◌}
use lib.ListN.{drop}
use Rattle.lists.specs.Tab.{tab}
use Rattle.records.specs.Records.{deposit_symbol}
use Rattle.deposit_rules.specs.Rules.{ruled, symbol_ok_at, symbols_ok}
use Rattle.deposit_rules.proofs.tables.Tables.symbols_ok.Given as goal

abbrev pub invariant-loop-i : goal.invariant-loop-i
invariant-loop-i l =
    let d = l.self.deposit.bytes.now in
    let h = l.self.deposit.head in
    symbols_ok d h ≡ ruled (λ r. r.index.0) (symbol_ok_at d h) l.last (drop l.i (tab (deposit_symbol d h) h.symbols))
