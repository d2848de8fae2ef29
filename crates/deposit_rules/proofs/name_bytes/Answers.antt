-- `deposit_rules::name_bytes` meets its contract: the pieces passed are of bytes 1 to 127, so that all bytes are where those to go are.
use mathlib.Core.Path.{◌≡◌, sym, ap, ◌∙◌}
use mathlib.Core.Bool.{Bool, true, false, ◌&&◌}
use mathlib.Core.List.{List}
use Prim.Native.Nat.{ℕ, ◌+◌, ◌-◌}
use native.Mathlib.Omega.{arith}
use Rattle.model.specs.Deposit.{all}
use Rattle.model.specs.Bytes.{part}
use Rattle.stream.specs.Stream.{bytes_at}
use Rattle.stream.specs.Run.{run_at, Turn, turn}
use Rattle.deposit_rules.specs.Rules.{name_byte}
use Rattle.deposit_rules.specs.Names.{all_append}
use Rattle.deposit_rules.proofs.name_bytes.Goals as goal
use Rattle.deposit_rules.proofs.name_bytes.Goals.{After-min-width}

turn-of : (c : After-min-width) → let a = c.args in Turn a.name.stream.bytes.now a.name.stream.gap (a.name.at + (a.name.len - c.loop-left.left)) c.loop-left.left c.loop-left.run c.min-width.result
turn-of c =
    let a = c.args in
    let e : a.name.at + (a.name.len - c.loop-left.left) + c.loop-left.left ≡ a.name.at + a.name.len = omega arith in
    turn a.name.stream.bytes.now a.name.stream.gap (a.name.at + (a.name.len - c.loop-left.left)) c.loop-left.left c.loop-left.run c.min-width.result c.loop-left.invariant.1 (omega arith) (rw e (omega arith))
    c.min-width.ensures

pub overflow_add-run : goal.overflow_add-run
overflow_add-run c = omega (arith, turn-of (goal.at.overflow_add-run c).After-min-width)

pub slice_bounds-name_piece-end : goal.slice_bounds-name_piece-end
slice_bounds-name_piece-end c = omega (arith, turn-of (goal.at.slice_bounds-name_piece-end c).After-min-width)

-- what is to go, by the piece in hand
to-go : (c : After-min-width) (b r : Bool) →
    let a = c.args in
    let q : ℕ = a.name.at + (a.name.len - c.loop-left.left) in
    let m : ℕ = c.min-width.result in
    let i : ℕ = c.loop-left.run.at in
    r ≡ all name_byte (part a.name.stream.bytes.now i (i + m - i)) → r ≡ b
    → all name_byte (bytes_at a.name.stream.bytes.now a.name.stream.gap a.name.at a.name.len) ≡ (b && all name_byte (bytes_at a.name.stream.bytes.now a.name.stream.gap (q + m) (c.loop-left.left - m)))
to-go c b r g t =
    let a = c.args in
    let q : ℕ = a.name.at + (a.name.len - c.loop-left.left) in
    let m : ℕ = c.min-width.result in
    let e : c.loop-left.run.at + m - c.loop-left.run.at ≡ m = omega arith in
    let f : r ≡ all name_byte (part a.name.stream.bytes.now c.loop-left.run.at m) = rw e at g in
    let rest : List ℕ = bytes_at a.name.stream.bytes.now a.name.stream.gap (q + m) (c.loop-left.left - m) in
    c.loop-left.invariant.2
    ∙ ap (all name_byte) (turn-of c).piece
    ∙ all_append name_byte (part a.name.stream.bytes.now c.loop-left.run.at m) rest
    ∙ ap (λ (b : Bool). b && all name_byte rest) (sym f ∙ t)

pub returns-then-not-name_piece : goal.returns-then-not-name_piece
returns-then-not-name_piece c = sym (to-go (goal.at.returns-then-not-name_piece c).After-min-width false c.name_piece.result c.name_piece.ensures c.if-not-name_piece.true)

pub skip-run-requires : goal.skip-run-requires
skip-run-requires c = omega (arith, turn-of (goal.at.skip-run-requires c).After-min-width)

pub loop-left-smaller : goal.loop-left-smaller
loop-left-smaller c = omega (arith, turn-of (goal.at.loop-left-smaller c).After-min-width)

pub loop-left-preserved : goal.loop-left-preserved
loop-left-preserved c =
    let a = c.args in
    let m : ℕ = c.min-width.result in
    let t = turn-of (goal.at.loop-left-preserved c).After-min-width in
    let e : a.name.at + (a.name.len - c.loop-left.left) + m ≡ a.name.at + (a.name.len - (c.loop-left.left - m)) = omega (arith, t) in (
      omega (arith, t),
      c.skip-run.ensures ∙ t.moved ∙ ap (run_at a.name.stream.gap) e,
      to-go (goal.at.loop-left-preserved c).After-min-width true c.name_piece.result c.name_piece.ensures c.if-not-name_piece.false ∙ rw e,
    )

pub returns : goal.returns
unfolding all bytes_at
returns c =
    let e : c.loop-left.left ≡ 0 = omega arith in
    sym (c.loop-left.invariant.2 ∙ rw e)
