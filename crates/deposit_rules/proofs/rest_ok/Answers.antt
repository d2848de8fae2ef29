-- `deposit_rules::rest_ok` meets its contract: what is left of the last block stands together.
use mathlib.Core.Path.{◌≡◌, sym, ap, ◌∙◌}
use Prim.Native.Nat.{ℕ, ◌+◌, ◌-◌, ◌*◌, ◌/◌, ◌≤◌}
use native.Mathlib.Nat.{le_trans, div-mul-le_self}
use native.Mathlib.Omega.{arith}
use lib.ListN.{length}
use Rattle.model.specs.Deposit.{end_of, all_zero}
use Rattle.stream.specs.Stream.{place}
use Rattle.stream.specs.Laws.{bytes-block}
use Rattle.stream.specs.Framed.{rest-block}
use Rattle.deposit_rules.specs.Rules.{rest_ok}
use Rattle.deposit_rules.proofs.rest_ok.Goals as goal

pub returns : goal.returns
unfolding rest_ok
returns c =
    let a = c.args in
    let d = a.deposit.bytes.now in
    let n : ℕ = length d / 512 * 508 - end_of a.deposit.head in
    let e : c.place-i.result + (length d / 512 * 508 - c.end_of-end.result) - c.place-i.result ≡ n = omega arith in
    let f : c.place-i.result ≡ place 4 (end_of a.deposit.head) = c.place-i.ensures.0 ∙ rw (c.deposit_stream.ensures.gap, c.end_of-end.ensures.0) in
    let p = c.requires in
    let r = rest-block (length d / 512) (end_of a.deposit.head) p.0 p.1 in
    let l : length d / 512 * 512 ≤ length d = div-mul-le_self (length d) 512 in
    c.zeros.ensures
    ∙ ap all_zero (rw (e, f) (sym (bytes-block d 4 (end_of a.deposit.head) n r.0 (le_trans r.1 l))))
