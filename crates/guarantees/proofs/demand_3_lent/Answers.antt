-- The contract of `guarantees::demand_3_lent` names what the lemmas of proofs/ show.
use Rattle.guarantees.proofs.Demand3.{first-lent, second-lent, second-both}
use Rattle.guarantees.proofs.demand_3_lent.Goals as goal

pub returns-clause-first : goal.returns-clause-first
returns-clause-first c = first-lent

pub returns-clause-second : goal.returns-clause-second
returns-clause-second c = second-lent

pub returns-clause-both : goal.returns-clause-both
returns-clause-both c = second-both
