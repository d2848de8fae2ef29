-- `patch_symbols::lower_bound` meets its contract: in front of `low` each name is before the word, and from `high` on none is; each turn's name decides for those on its side.
use Rattle.std.proofs.Common.{◌+◌, ◌-◌, ◌/◌, ◌<◌, arith, sym, ◌∙◌, length, not-suc-le-zero}
use Rattle.patch_symbols.specs.Search.{names-below, names-above}
use Rattle.patch_symbols.proofs.lower_bound.Goals as goal

pub loop-low-init : goal.loop-low-init
loop-low-init c =
    record {
      apart = omega arith;
      within = omega arith;
      below = λ i l. absurd (not-suc-le-zero l);
      above = λ i l m. let no : ⊥ = omega arith in absurd no;
    }

pub loop-low-preserved-then-is_before : goal.loop-low-preserved-then-is_before
loop-low-preserved-then-is_before c =
    let l = c.loop-low in
    let a = c.args in
    let m = l.low + (l.high - l.low) / 2 in
    let t : m < length a.symbols.now = omega arith in
    record {
      apart = omega arith;
      within = omega arith;
      below = names-below a.records.bytes.now a.records.index.now a.records.view a.word.now a.symbols.now c.requires.0 c.requires.1 m t (sym c.is_before.ensures ∙ c.if-is_before.true);
      above = l.invariant.above;
    }

pub loop-low-preserved : goal.loop-low-preserved
loop-low-preserved c =
    let l = c.loop-low in
    let a = c.args in
    let m = l.low + (l.high - l.low) / 2 in
    record {
      apart = omega arith;
      within = omega arith;
      below = l.invariant.below;
      above = names-above a.records.bytes.now a.records.index.now a.records.view a.word.now a.symbols.now c.requires.0 c.requires.1 m (sym c.is_before.ensures ∙ c.if-is_before.false);
    }

pub returns : goal.returns
returns c =
    let l = c.loop-low in
    record { within = omega arith; below = l.invariant.below; above = λ i n m. l.invariant.above i (omega arith) m }
