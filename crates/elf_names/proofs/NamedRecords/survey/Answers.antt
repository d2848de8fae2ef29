-- `elf_names::NamedRecords::survey` meets its contract: the lengths of the names passed are stored, and those to go decide whether all are fine.
use Rattle.std.proofs.Common.{◌≡◌, refl, ap, ◌∙◌, ◌&&◌, ℕ, ◌+◌, arith, append-nil, length, drop}
use Rattle.std.proofs.Math.Seq.{drop-length}
use Rattle.std.proofs.lemmas.Result.{err_from_is_err_and}
use Rattle.lists.specs.Tab.{tab, tab-none, tab-set}
use Rattle.lists.specs.Walk.{drop-tab-next, drop-tab-none}
use Rattle.model.specs.Deposit.{all}
use Rattle.model.specs.Elf.{string_at}
use Rattle.model.specs.ElfRefusals.{string_ok}
use Rattle.elf_names.specs.Lengths.{string_table, name_offset, strings_ok}
use Rattle.elf_names.specs.Told.{fault-of-all}
use Rattle.elf_names.proofs.NamedRecords.survey.Goals as goal
use Rattle.elf_names.proofs.NamedRecords.survey.Goals.{After-measure}

-- the name in hand, and those to go
to-go : (c : After-measure) →
    let r = c.args.self in
    let s = r.names in
    let d = s.bytes.now in
    let n = length c.args.lens.now in
    strings_ok r.order d r.at r.width s.start s.end n
    ≡ (string_ok (drop c.four-offset.result (string_table d s.start s.end))
    && all (λ o. string_ok (drop o (string_table d s.start s.end))) (drop (c.loop-i.i + 1) (tab (name_offset r.order d r.at r.width) n)))
unfolding all
to-go c =
    let r = c.args.self in
    let s = r.names in
    let d = s.bytes.now in
    rw c.four-offset.ensures
    (c.loop-i.invariant.2
    ∙ ap (all (λ o. string_ok (drop o (string_table d s.start s.end)))) (drop-tab-next (name_offset r.order d r.at r.width) (length c.args.lens.now) c.loop-i.i (omega arith)))

pub loop-i-init : goal.loop-i-init
loop-i-init c = (c.requires.1, rw tab-none, refl)

pub returns-in_err-length : goal.returns-in_err-length
returns-in_err-length c =
    let p = err_from_is_err_and c.from_residual.result c.from_residual.ensures.1 in
    rw (p.1, p.2, to-go (goal.at.returns-in_err-length c).After-measure) (fault-of-all _ _ _ _ (rw c.loop-i.auto.memo at c.in_err-length.ensures.0))

pub loop-i-preserved : goal.loop-i-preserved
loop-i-preserved c =
    let r = c.args.self in
    let s = r.names in
    let d = s.bytes.now in
    let t = c.in_ok-length.ensures.0 in
    let f : ℕ → ℕ = λ k. length (string_at (string_table d s.start s.end) (name_offset r.order d r.at r.width k)) in
    let e : c.in_ok-length.field-0 ≡ f c.loop-i.i = t.1 ∙ ap (λ (o : ℕ). length (string_at (string_table d s.start s.end) o)) c.four-offset.ensures in (
      c.measure.ensures.1,
      rw (e, c.loop-i.invariant.1) (tab-set f c.loop-i.i c.args.lens.now (omega arith)),
      to-go (goal.at.loop-i-preserved c).After-measure ∙ rw t.0,
    )

pub returns : goal.returns
unfolding all
returns c =
    let r = c.args.self in
    let s = r.names in
    let d = s.bytes.now in
    let e : c.loop-i.i ≡ length c.args.lens.now = omega arith in (
      c.loop-i.invariant.2
          ∙ ap (all (λ o. string_ok (drop o (string_table d s.start s.end)))) (drop-tab-none (name_offset r.order d r.at r.width) (length c.args.lens.now) c.loop-i.i (omega arith)),
      c.loop-i.invariant.1 ∙ rw (e, drop-length, append-nil),
    )
