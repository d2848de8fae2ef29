-- `parse_sections::parse_programs` meets its contract: its refusal, else its programs.
use Rattle.parse_sections.specs.Answers.{answers-refused, answers-fine}
use Rattle.parse_text.specs.Parsed.{checked-fine, checked_refused}
use Rattle.std.proofs.lemmas.Result.{err_from_is_err_and}
use mathlib.Core.Path.{sym, ◌∙◌}
use Rattle.parse_sections.proofs.parse_programs.Goals as goal

pub returns-in_err-program_refusal : goal.returns-in_err-program_refusal
returns-in_err-program_refusal c =
    let p = err_from_is_err_and c.from_residual.result c.from_residual.ensures.1 in
    rw (p.1, p.2) (answers-refused _ _ _ _ _ (checked_refused _ _ (sym c.program_refusal.ensures ∙ c.in_err-program_refusal.was)))

pub returns : goal.returns
returns c =
    let n = c.program_numbers in
    let e = c.requires.1 in
    answers-fine _ _ _ _ _ (checked-fine _ (sym c.program_refusal.ensures ∙ c.in_ok-program_refusal.was)) (rw e at n.ensures.0) (rw e at n.ensures.1)
