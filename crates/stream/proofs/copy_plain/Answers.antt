-- `stream::copy_plain` meets its contract: bytes inside d are copied at once, and else one by one: those copied stand in front of what t had.
use Rattle.std.proofs.Common.{◌≡◌, ℕ, ◌+◌, ◌-◌, get_or, sym, ap, ◌∙◌, arith, length, length-take, length-drop}
use Rattle.std.proofs.lemmas.Grind.{common_steps}
use Rattle.lists.specs.Tab.{copied-whole}
use Rattle.stream.specs.Stream.{place, byte_at}
use Rattle.stream.specs.Laws.{copied_more, bytes-plain}
use Rattle.stream.proofs.copy_plain.Goals as goal

pub returns-then-e-d : goal.returns-then-e-d
returns-then-e-d c =
    let a = c.args in
    let e : a.i + length a.t.now - a.i ≡ length a.t.now = omega arith in
    c.copy.ensures ∙ copied-whole _ a.t.now (rw (length-take, length-drop) (omega (arith, c.if-e-d.true))) ∙ rw e (sym (bytes-plain a.d.now a.i (length a.t.now) c.if-e-d.true))

pub loop-k-preserved : goal.loop-k-preserved
unfolding byte_at
loop-k-preserved c =
    let a = c.args in
    let p = a.i + c.loop-k.k in
    let z : place 0 p ≡ p = omega arith in
    let e : c.unwrap_or.result ≡ get_or a.d.now p 0 = grind (arith, common_steps) in
    rw (c.loop-k.invariant, e ∙ sym (ap (λ (j : ℕ). get_or a.d.now j 0) z)) (copied_more a.d.now 0 a.i c.loop-k.k a.t.now c.loop-k-test.true)
