-- `deposit_rules::names_ok` meets its contract: the table of names lies inside the deposit.
use Prim.Native.Nat.{ℕ, ◌+◌, ◌≤◌}
use native.Mathlib.Nat.{le_trans}
use native.Mathlib.Omega.{arith}
use Rattle.model.specs.Deposit.{end_of}
use Rattle.stream.specs.Laws.{place_mono}
use Rattle.deposit_rules.specs.Rules.{names_ok}
use Rattle.deposit_rules.proofs.names_ok.Goals as goal

pub name_bytes-requires : goal.name_bytes-requires
unfolding end_of
name_bytes-requires c =
    let a = c.args in
    let n : ℕ = c.names_at.result + a.deposit.head.names in
    let l : n ≤ end_of a.deposit.head = omega arith in
    rw (c.span.ensures.stream, c.deposit_stream.ensures.bytes, c.deposit_stream.ensures.gap, c.span.ensures.at, c.span.ensures.len) (omega arith, le_trans (place_mono 4 n (end_of a.deposit.head) l) c.requires)

pub returns : goal.returns
unfolding names_ok
returns c = rw (c.span.ensures.stream, c.deposit_stream.ensures.bytes, c.deposit_stream.ensures.gap, c.span.ensures.at, c.span.ensures.len, c.names_at.ensures.0) at c.name_bytes.ensures
