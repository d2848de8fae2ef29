-- `Tables::name_ok` meets its contract: a name inside its table lies inside the deposit.
use mathlib.Core.Path.{sym, ◌∙◌}
use Prim.Native.Nat.{ℕ, ◌+◌, ◌≤◌}
use native.Mathlib.Nat.{le_trans}
use native.Mathlib.Omega.{arith}
use borrow.Author.Tests.{le-leb, leb-true}
use Rattle.model.specs.Deposit.{end_of}
use Rattle.stream.specs.Laws.{place_mono}
use Rattle.deposit_rules.specs.Rules.{name_ok_at, name-inside}
use Rattle.deposit_rules.proofs.tables.Tables.name_ok.Goals as goal

pub returns-then-self : goal.returns-then-self
unfolding name_ok_at
returns-then-self c =
    let a = c.args in
    let w = sym c.inside.ensures ∙ c.if-not-inside.false in
    rw (le-leb a.e.length 65535 (omega arith), w, c.if-self.true) (sym (name-inside a.self.deposit.bytes.now a.self.deposit.head a.e w (a.self.known c.if-self.true)))

pub name_bytes-requires : goal.name_bytes-requires
unfolding end_of
name_bytes-requires c =
    let a = c.args in
    let w : a.e.at + a.e.length ≤ a.self.deposit.head.names = leb-true _ _ (sym c.inside.ensures ∙ c.if-not-inside.false) in
    let n : ℕ = c.names_at.result + a.e.at + a.e.length in
    let l : n ≤ end_of a.self.deposit.head = omega arith in
    rw (c.span.ensures.stream, c.deposit_stream-stream.ensures.bytes, c.deposit_stream-stream.ensures.gap, c.span.ensures.at, c.span.ensures.len) (omega arith, le_trans (place_mono 4 n (end_of a.self.deposit.head) l) a.self.placed)

pub returns-else-self : goal.returns-else-self
unfolding name_ok_at
returns-else-self c =
    let w = sym c.inside.ensures ∙ c.if-not-inside.false in
    rw (le-leb c.args.e.length 65535 (omega arith), w)
    (rw (c.span.ensures.stream, c.deposit_stream-stream.ensures.bytes, c.deposit_stream-stream.ensures.gap, c.span.ensures.at, c.span.ensures.len, c.names_at.ensures.0) at c.name_bytes.ensures)
