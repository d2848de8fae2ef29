-- `parse_text::Again::next` meets its contract, by cases: no defined text, the address of the one before it, another one or the first.
use mathlib.Core.Path.{sym, ap, ◌∙◌}
use Rattle.std.specs.Prelude.{ℕ, Option, Some}
use Rattle.parse_text.specs.Again.{next-other, next-again, next-apart}
use Rattle.parse_text.proofs.Again.next.Goals as goal

pub returns-then-not-is_defined_text : goal.returns-then-not-is_defined_text
returns-then-not-is_defined_text c =
    let r = c.is_defined_text in
    let a = c.args in
    next-other a.self a.j a.y (sym r.ensures ∙ c.if-not-is_defined_text.true)

pub returns-then-eq : goal.returns-then-eq
returns-then-eq c =
    let r = c.is_defined_text in
    let a = c.args in
    ap (λ (l : Option ℕ). record { address = Some a.y.address; least = l }) c.earlier.ensures
    ∙ next-again a.self a.j a.y (sym r.ensures ∙ c.if-not-is_defined_text.false) (sym c.eq.ensures ∙ c.if-eq.true)

pub returns : goal.returns
returns c =
    let r = c.is_defined_text in
    let a = c.args in
    next-apart a.self a.j a.y (sym r.ensures ∙ c.if-not-is_defined_text.false) (sym c.eq.ensures ∙ c.if-eq.false)
