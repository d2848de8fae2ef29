-- `Tables::check_sections` meets its contract: the records passed keep their rules, so that all do where those to go do; and one of all is named
-- `.BTF` where one of those passed is, or of those to go.
use mathlib.Core.Path.{◌≡◌, sym, ap, ◌∙◌}
use mathlib.Core.Bool.{Bool, true, false, ◌||◌, or_assoc, or-false}
use Prim.Native.Nat.{◌+◌}
use native.Mathlib.Omega.{arith}
use borrow.Author.Tests.{lt-ltb, le-ltb}
use lib.ListN.{drop}
use Rattle.lists.specs.Tab.{tab}
use Rattle.records.specs.Records.{deposit_section}
use Rattle.deposit_rules.specs.Rules.{some_of, section_ok_at, is_btf, sections_ok, some_btf}
use Rattle.deposit_rules.specs.Checked.{checked_sections}
use Rattle.deposit_rules.specs.Walk.{ruled-from, ruled-end, some-from, some_end}
use Rattle.deposit_rules.proofs.tables.Tables.check_sections.Goals as goal
use Rattle.deposit_rules.proofs.tables.Tables.check_sections.Goals.{After-loop-i, then-s-last-via-then-s-last, then-s-last-via-else-s-last+then-not-section_ok}

pub returns-then-s-last : goal.returns-then-s-last
unfolding checked_sections
returns-then-s-last c =
    let d = c.args.self.deposit.bytes.now in
    let h = c.args.self.deposit.head in
    let next = c.loop-i.invariant.0 ∙ ruled-from (deposit_section d) h.sections c.loop-i.i (λ r. r.index.0) (section_ok_at d h) c.loop-i.last (omega arith) in
    elim c.then-s-last.branch [
      | then-s-last-via-then-s-last w ↦
          let e : sections_ok d h ≡ false = next ∙ rw (← c.section-s.ensures, le-ltb _ _ w.if-s-last.true) in rw e
      | then-s-last-via-else-s-last+then-not-section_ok w ↦
          let e : sections_ok d h ≡ false =
          next ∙ rw (← c.section-s.ensures, lt-ltb _ _ w.if-s-last.false, ← w.section_ok.ensures, w.if-not-section_ok.true)
          in
          rw e
    ]

pub loop-i-preserved : goal.loop-i-preserved
loop-i-preserved c =
    let d = c.args.self.deposit.bytes.now in
    let h = c.args.self.deposit.head in
    let rest : Bool = some_of (is_btf d h) (drop (c.loop-i.i + 1) (tab (deposit_section d) h.sections)) in (
      c.loop-i.invariant.0
          ∙ ruled-from (deposit_section d) h.sections c.loop-i.i (λ r. r.index.0) (section_ok_at d h) c.loop-i.last (omega arith)
          ∙ rw (← c.section-s.ensures, lt-ltb _ _ c.if-s-last.false, ← c.section_ok.ensures, c.if-not-section_ok.false),
      c.loop-i.invariant.1
          ∙ ap (λ (b : Bool). c.loop-i.btf || b) (some-from (deposit_section d) h.sections c.loop-i.i (is_btf d h) (omega arith))
          ∙ rw (← c.section-s.ensures, c.is_btf-btf.ensures) (sym (or_assoc c.loop-i.btf (is_btf d h c.section-s.result) rest)),
    )

-- behind the loop
whole : (c : After-loop-i) →
    let d = c.args.self.deposit.bytes.now in
    let h = c.args.self.deposit.head in
    (sections_ok d h ≡ true) × (some_btf d h ≡ c.loop-i.btf)
whole c =
    let d = c.args.self.deposit.bytes.now in
    let h = c.args.self.deposit.head in (
      c.loop-i.invariant.0 ∙ ruled-end (deposit_section d) h.sections c.loop-i.i (λ r. r.index.0) (section_ok_at d h) c.loop-i.last (omega arith),
      c.loop-i.invariant.1
          ∙ ap (λ (b : Bool). c.loop-i.btf || b) (some_end (deposit_section d) h.sections c.loop-i.i (is_btf d h) (omega arith))
          ∙ or-false c.loop-i.btf,
    )

pub returns-then-btf : goal.returns-then-btf
unfolding checked_sections
returns-then-btf c = let w = whole (goal.at.returns-then-btf c).After-loop-i in rw (w.0, w.1, c.if-btf.true)

pub returns-else-btf : goal.returns-else-btf
unfolding checked_sections
returns-else-btf c = let w = whole (goal.at.returns-else-btf c).After-loop-i in rw (w.0, w.1, c.if-btf.false)
