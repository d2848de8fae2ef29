-- `load_object::load_accepted` meets its contract: what the patches or the room refuse, or all that is filled and finished.
use Rattle.std.specs.Prelude.{◌≡◌, refl, None}
use Rattle.std.proofs.Common.{sym, ap, ◌∙◌}
use Rattle.std.proofs.lemmas.Result.{err_from_is_err_and}
use Rattle.model.specs.Lent.{refused_outcome}
use Rattle.model.specs.Refusals.{patch_refusal}
use Rattle.records.specs.Of.{of}
use Rattle.object.specs.View.{object_in}
use Rattle.parse_text.specs.Parsed.{checked-fine, checked_refused}
use Rattle.patch_checks.specs.Lists.{patches_in}
use Rattle.bytes_layout.specs.Parts.{catalogue}
use Rattle.load_decision.specs.Outcomes.{back-patches, back-small}
use Rattle.load_object.specs.Core.{fillable, patch-ready, accepted-done}
use Rattle.load_object.proofs.load_accepted.Goals as goal
use Rattle.load_object.proofs.load_accepted.Goals.{In_ok-decide_patches}

pub returns-in_err-decide_patches : goal.returns-in_err-decide_patches
returns-in_err-decide_patches c =
    let p = err_from_is_err_and c.from_residual.result c.from_residual.ensures.1 in
    rw (p.1, p.2) (back-patches _ _ _ _ c.args.accepted.accepted (checked_refused _ _ (sym c.decide_patches.ensures.0 ∙ c.in_err-decide_patches.was)) c.args.rewrite)

-- nothing refuses the patches
patches-fine : (c : In_ok-decide_patches) → (let a = c.args in patch_refusal (of object_in a.accepted.object.records) (of catalogue a.accepted.object.records).maps 1 (patches_in a.list) ≡ None)
patches-fine c = checked-fine _ (sym c.decide_patches.ensures.0 ∙ c.in_ok-decide_patches.was)

pub returns-in_err-plan : goal.returns-in_err-plan
returns-in_err-plan c =
    let p = err_from_is_err_and c.from_residual-in_err-plan.result c.from_residual-in_err-plan.ensures.1 in
    let w = rw c.in_err-plan.was at c.decide_room-decision.ensures.0 in
    rw (p.1, p.2) (back-small _ _ _ c.args.accepted.accepted (patches-fine (goal.at.returns-in_err-plan c).In_ok-decide_patches) w.1 c.args.rewrite ∙ ap (refused_outcome _) (sym w.0))

pub fill-requires : goal.fill-requires
fill-requires c =
    let k = c.decide_room-decision in
    fillable _ _ (rw c.in_ok-plan.was at k.ensures.0) _ _ _ _ _ c.args.relocations.now refl refl refl (sym k.auto.relocations) refl (k.ensures.1 _ c.in_ok-plan.was)

pub finish_bytes-requires : goal.finish_bytes-requires
finish_bytes-requires c =
    let a = c.args.accepted in
    let g = rw c.in_ok-plan.was at c.decide_room-decision.ensures.0 in
    let k = c.fill in (
      a.accepted,
      patches-fine (goal.at.finish_bytes-requires c).In_ok-decide_patches,
      g.at,
      patch-ready a.object.readable a.accepted a.held.maps _ _ _ _ _ g.at.own (rw k.auto.maps k.ensures.2) c.decide_patches.ensures.1,
      rw k.auto.bytes k.ensures.4,
    )

pub returns : goal.returns
returns c =
    let a = c.args.accepted in
    let g = rw c.in_ok-plan.was at c.decide_room-decision.ensures.0 in
    let k = c.fill in
    accepted-done a _ c.in_ok-plan.plan g (patches_in c.args.list) (patches-fine (goal.at.returns c).In_ok-decide_patches) c.args.rewrite _ _ _ _ _ _ c.summary.ensures
    k.ensures.0 k.ensures.1 k.ensures.2 (rw c.decide_room-decision.auto.relocations at k.ensures.3) (rw k.auto.bytes at c.finish_bytes.ensures)
