-- `parse_sections::parse_object` meets its contract: the licence, the version, then the sections.
use Rattle.parse_sections.specs.Pass.{refused-licence, refused-version, refused-sections}
use Rattle.parse_text.specs.Parsed.{checked-fine, checked_refused}
use Rattle.parse_first.specs.Targets.{NextOf, next_of}
use lib.ListN.{length, drop}
use lib.Seq.{length_front}
use Rattle.std.proofs.lemmas.Result.{err_from_is_err_and}
use mathlib.Core.List.{◌++◌}
use mathlib.Core.Path.{◌≡◌, sym, ap, ◌∙◌}
use Rattle.parse_sections.proofs.parse_object.Goals as goal
use Rattle.parse_sections.proofs.parse_object.Goals.{After-by_section, After-next_untargeted}

next_known : (c : After-next_untargeted) → (let a = c.args in NextOf a.object.records.bytes.now a.object.records.index.now a.object.records.view c.next_untargeted.new.next)
next_known c =
    let a = c.args in
    rw c.next_untargeted.ensures (next_of a.object.records.bytes.now a.object.records.index.now a.object.records.view a.next.now c.requires.0)

-- the programs' list is as long as it was
programs-long : (c : After-by_section) → (length (c.by_section.new.tmp ++ drop c.args.object.records.view.symbols c.args.programs.now) ≡ length c.args.programs.now)
programs-long c = length_front c.args.programs.now c.by_section.new.tmp c.args.object.records.view.symbols c.by_section.auto.tmp

pub license_refusal-requires : goal.license_refusal-requires
license_refusal-requires c =
    (ap (λ n. n.license) c.find_named-named.ensures, next_known (goal.at.license_refusal-requires c).After-next_untargeted)

pub returns-in_err-license_refusal : goal.returns-in_err-license_refusal
returns-in_err-license_refusal c =
    let a = c.args in
    let p = err_from_is_err_and c.from_residual.result c.from_residual.ensures.1 in
    rw (p.1, p.2) (refused-licence a.object.records.bytes.now a.object.records.index.now a.object.records.view _ (checked_refused _ _ (sym c.license_refusal.ensures ∙ c.in_err-license_refusal.was)))

pub version_refusal-requires : goal.version_refusal-requires
version_refusal-requires c =
    (ap (λ n. n.version) c.find_named-named.ensures, next_known (goal.at.version_refusal-requires c).After-next_untargeted)

pub returns-in_err-version_refusal : goal.returns-in_err-version_refusal
returns-in_err-version_refusal c =
    let a = c.args in
    let fine = checked-fine _ (sym c.license_refusal.ensures ∙ c.in_ok-license_refusal.was) in
    let p = err_from_is_err_and c.from_residual-in_err-version_refusal.result c.from_residual-in_err-version_refusal.ensures.1 in
    rw (p.1, p.2) (refused-version a.object.records.bytes.now a.object.records.index.now a.object.records.view fine _ (checked_refused _ _ (sym c.version_refusal.ensures ∙ c.in_err-version_refusal.was)))

pub license_of-license-requires : goal.license_of-license-requires
license_of-license-requires c = ap (λ n. n.license) c.find_named-named.ensures

pub version_of-version-requires : goal.version_of-version-requires
version_of-version-requires c =
    (ap (λ n. n.version) c.find_named-named.ensures, checked-fine _ (sym c.version_refusal.ensures ∙ c.in_ok-version_refusal.was))

pub parse_sections-requires : goal.parse_sections-requires
parse_sections-requires c =
    let q = c.requires in
    (next_known (goal.at.parse_sections-requires c).After-next_untargeted, c.by_section.ensures, q.2, rw (programs-long (goal.at.parse_sections-requires c).After-by_section) q.3, q.4, q.5, c.license_of-license.ensures, c.version_of-version.ensures)

pub returns : goal.returns
returns c =
    let a = c.args in
    let one = checked-fine _ (sym c.license_refusal.ensures ∙ c.in_ok-license_refusal.was) in
    let two = checked-fine _ (sym c.version_refusal.ensures ∙ c.in_ok-version_refusal.was) in
    rw (refused-sections a.object.records.bytes.now a.object.records.index.now a.object.records.view one two) c.parse_sections.ensures
