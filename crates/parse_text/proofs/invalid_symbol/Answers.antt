-- `parse_text::invalid_symbol` meets its contract: its tests are the definition's, that of the data's end by subtraction.
use mathlib.Core.Path.{sym, ◌∙◌}
use Prim.Native.Nat.{◌+◌, ◌<◌, ◌≤◌}
use native.Mathlib.Omega.{arith}
use borrow.Author.Tests.{eq-eqb, ne_eqb, lt-ltb, le-ltb}
use Rattle.parse_text.specs.Parsed.{invalid_symbol}
use Rattle.parse_text.proofs.invalid_symbol.Goals as goal

pub returns-then-size-eq0 : goal.returns-then-size-eq0
unfolding invalid_symbol
returns-then-size-eq0 c = let a = c.args in rw (c.refused.ensures, eq-eqb a.y.size 0 c.if-size-eq0.true)

pub returns-then-size-from : goal.returns-then-size-from
unfolding invalid_symbol
returns-then-size-from c =
    let a = c.args in
    let l : a.s.bytes.length < a.offset + a.y.size = omega arith in
    rw (c.refused-then-size-from.ensures, ne_eqb a.y.size 0 c.if-size-eq0.false, lt-ltb a.s.bytes.length (a.offset + a.y.size) l)

pub returns-then-invalid_program_code : goal.returns-then-invalid_program_code
unfolding invalid_symbol
returns-then-invalid_program_code c =
    let r = c.invalid_program_code in
    let a = c.args in
    let l : a.offset + a.y.size ≤ a.s.bytes.length = omega arith in
    rw (
      c.refused-then-invalid_program_code.ensures,
      ne_eqb a.y.size 0 c.if-size-eq0.false,
      le-ltb a.s.bytes.length (a.offset + a.y.size) l,
      sym r.ensures ∙ c.if-invalid_program_code.true,
    )

pub returns : goal.returns
unfolding invalid_symbol
returns c =
    let r = c.invalid_program_code in
    let a = c.args in
    let l : a.offset + a.y.size ≤ a.s.bytes.length = omega arith in
    rw (
      ne_eqb a.y.size 0 c.if-size-eq0.false,
      le-ltb a.s.bytes.length (a.offset + a.y.size) l,
      sym r.ensures ∙ c.if-invalid_program_code.false,
    )
