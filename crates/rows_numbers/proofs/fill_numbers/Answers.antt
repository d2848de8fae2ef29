-- `rows_numbers::fill_numbers` meets its contract: the rows passed stand in front, and `at` is what is left behind them.
use mathlib.Core.Path.{◌≡◌, refl, sym, ap, ◌∙◌}
use Prim.Native.Nat.{ℕ}
use native.Mathlib.Omega.{arith}
use lib.ListN.{length}
use Rattle.model.specs.FunctionNumbers.{rows_in}
use Rattle.rows_functions.specs.Rows.{made_of}
use Rattle.rows_functions.specs.Stored.{made_at, rest-none, rest-next}
use Rattle.rows_numbers.specs.Flat.{numbers_stored, stored-none, stored_next, stored-all}
use Rattle.rows_numbers.proofs.fill_numbers.Goals as goal

pub loop-i-init : goal.loop-i-init
loop-i-init c =
    let a = c.args in
    let r = a.object.records in
    (refl, sym (rest-none r.bytes.now r.index.now r.view a.symbols.now a.rows), sym (stored-none r.bytes.now r.index.now r.view a.symbols.now a.rows a.numbers.now))

pub loop-i-preserved : goal.loop-i-preserved
loop-i-preserved c =
    let f = c.store_row in
    let m = c.function_row-m in
    let a = c.args in
    let r = a.object.records in
    let k : ℕ = c.loop-i.i in
    let e : m.result ≡ made_at r.bytes.now r.index.now r.view a.symbols.now a.rows k = m.ensures ∙ ap (made_of r.bytes.now r.index.now r.view a.symbols.now k) c.loop-i.invariant.1 in (
      f.auto.numbers ∙ c.loop-i.invariant.0,
      ap (λ x. x.rest) e ∙ rest-next r.bytes.now r.index.now r.view a.symbols.now a.rows k,
      f.ensures ∙ stored_next r.bytes.now r.index.now r.view a.symbols.now a.rows a.numbers.now k c.loop-i.numbers m.result e c.loop-i.invariant.2 (omega (arith, c.loop-i-test.true)),
    )

pub returns : goal.returns
returns c =
    let f = c.fill in
    let a = c.args in
    let r = a.object.records in
    let e : c.loop-i.i ≡ rows_in (length a.numbers.now) = omega arith in
    stored-all r.bytes.now r.index.now r.view a.symbols.now a.rows a.numbers.now (rows_in (length a.numbers.now)) c.loop-i.numbers f.new.self
    (omega arith) (c.loop-i.invariant.2 ∙ ap (numbers_stored r.bytes.now r.index.now r.view a.symbols.now a.rows a.numbers.now) e) (f.ensures.after (λ y e. e))
