-- `load_object::try_load` meets its contract: the record numbers of an object that is not refused stand in front of the arrays.
use Rattle.std.proofs.Common.{arith}
use Rattle.std.proofs.lemmas.Result.{err_from_is_err_and}
use Rattle.load_decision.specs.Outcomes.{back-object}
use Rattle.load_object.specs.Core.{numbers-refused, numbers-held, tried-front}
use Rattle.load_object.proofs.try_load.Goals as goal

pub returns-in_err-n : goal.returns-in_err-n
returns-in_err-n c =
    let p = err_from_is_err_and c.from_residual.result c.from_residual.ensures.1 in
    rw (p.1, p.2) (back-object _ _ _ _ (numbers-refused _ c.in_err-n.ensures) c.args.rewrite)

pub invariant_of-accepted : goal.invariant_of-accepted
invariant_of-accepted c =
    let w = c.requires in
    let k = c.parse.auto in
    let h = numbers-held c.in_ok-n.n c.in_ok-n.ensures in
    record { accepted = h.ok; held = h.held (omega (arith, k.sections)) (omega (arith, k.programs)) (omega (arith, k.functions)) (omega (arith, k.maps)) }

pub returns : goal.returns
returns c = tried-front c.args.object.records _ _ _ _ _ _ _ _ _ c.in_ok-n.n.functions c.load_accepted.result c.load_accepted.ensures
