-- `deposit_frame::check_ok` meets its contract, by the law of a block's check by its place.
use mathlib.Core.Path.{◌≡◌, sym}
use Prim.Native.Nat.{◌+◌, ◌-◌, ◌*◌}
use native.Mathlib.Omega.{arith}
use Rattle.deposit_frame.specs.Checks.{check-place}
use Rattle.deposit_frame.proofs.check_ok.Goals as goal

pub returns : goal.returns
returns c =
    let a = c.args in
    let e : a.n * 512 + 508 - a.n * 512 ≡ 508 = omega arith in
    let f : a.n * 512 + 508 + 4 - (a.n * 512 + 508) ≡ 4 = omega arith in
    rw (c.number_of.ensures, c.weigh.ensures.0, e, f)
    (sym (check-place a.d.now (a.n + 1) (a.n * 512) (omega arith)))
