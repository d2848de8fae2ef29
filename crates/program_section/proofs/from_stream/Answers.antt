-- `from_stream` meets its contract: a name that lies in one block begins a window of what was lent.
use Rattle.std.proofs.Common.{◌≡◌, ℕ, ◌-◌, ◌%◌, take, arith, ap, subst, ◌∙◌}
use Rattle.model.specs.ProgramName.{program_of}
use Rattle.stream.specs.declared.Run.{Run}
use Rattle.stream.specs.Spans.{bytes_of}
use Rattle.stream.specs.Run.{run-at, run_room, run-one}
use Rattle.program_section.specs.Found.{Tells}
use Rattle.program_section.specs.Table.{told_by}
use Rattle.program_section.proofs.Slices.{window}
use Rattle.program_section.proofs.from_stream.Goals as goal

pub overflow_add-run : goal.overflow_add-run
overflow_add-run c =
    let a = c.args.name in
    omega (arith, run-one a.stream.gap a.at c.run-run.result c.run-run.ensures a.stream.narrow (omega (arith, a.near)))

pub returns-in-Some : goal.returns-in-Some
returns-in-Some c =
    let a = c.args.name in
    let r : Run = c.run-run.result in
    let at = ap (λ (q : Run). q.at) c.run-run.ensures ∙ run-at a.stream.gap a.at in
    let room : r.room ≡ 508 - a.at % 508 = ap (λ (q : Run). q.room) c.run-run.ensures ∙ run_room a.stream.gap a.at in
    let h = c.in-Some.ensures.lookup in
    let w : take a.len c.in-Some.window.now ≡ bytes_of a =
    ap (take a.len) h.0.2 ∙ window a.stream.bytes.now a.stream.gap a.at a.len r.at at (omega (arith, c.if-name-run.false)) (omega arith) h.0.1
    in
    subst (Tells (told_by c.from_window.result)) (ap program_of w) c.from_window.ensures
