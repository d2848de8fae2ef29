-- `bytes_names::copy_span` meets its contract: each turn lays the bytes left in the block behind those copied.
use Rattle.std.proofs.Common.{◌≡◌, ◌+◌, ◌-◌, arith, ap, ◌∙◌, length-take, length-drop}
use Rattle.lists.specs.Tab.{copied-whole}
use Rattle.stream.specs.Run.{run_at, Turn, turn}
use Rattle.bytes_names.specs.Copy.{copy_more}
use Rattle.bytes_names.proofs.copy_span.Goals as goal
use Rattle.bytes_names.proofs.copy_span.Goals.{After-min-m}

turn-of : (c : After-min-m) →
    let s = c.args.span in
    let k = c.loop-done in
    Turn s.stream.bytes.now s.stream.gap (s.at + k.done) (s.len - k.done) k.run c.min-m.result
turn-of c =
    let s = c.args.span in
    let k = c.loop-done in
    let e : s.at + k.done + (s.len - k.done) ≡ s.at + s.len = omega arith in
    turn s.stream.bytes.now s.stream.gap (s.at + k.done) (s.len - k.done) k.run c.min-m.result k.invariant.stands (omega arith) (rw e (omega arith))
    (omega arith)

pub overflow_add-to : goal.overflow_add-to
overflow_add-to c = omega (arith, turn-of (goal.at.overflow_add-to c).After-min-m)

pub slice_bounds-copy-end-in-loop-done :
    goal.slice_bounds-copy-end-in-loop-done
slice_bounds-copy-end-in-loop-done c =
    omega (arith, turn-of (goal.at.slice_bounds-copy-end-in-loop-done c).After-min-m)

pub skip-run-requires : goal.skip-run-requires
skip-run-requires c = omega (arith, turn-of (goal.at.skip-run-requires c).After-min-m)

pub loop-done-smaller : goal.loop-done-smaller
loop-done-smaller c = omega (arith, turn-of (goal.at.loop-done-smaller c).After-min-m)

pub loop-done-preserved : goal.loop-done-preserved
loop-done-preserved c =
    let s = c.args.span in
    let k = c.loop-done in
    let t = turn-of (goal.at.loop-done-preserved c).After-min-m in
    let e : s.at + k.done + c.min-m.result ≡ s.at + (k.done + c.min-m.result) = omega arith in
    record {
      most = omega (arith, t);
      stands = c.skip-run.ensures ∙ t.moved ∙ ap (run_at s.stream.gap) e;
      copied = copy_more s.stream.bytes.now s.stream.gap s.at k.done (s.len - k.done) c.min-m.result k.run c.args.out.now k.out c.copy.new.dst t (omega (arith, t)) k.invariant.copied (c.copy.ensures ∙ copied-whole _ _ (rw (length-take, length-drop, length-take, length-drop) (omega (arith, t))));
    }
