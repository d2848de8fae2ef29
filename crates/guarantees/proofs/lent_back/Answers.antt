-- The contract of `guarantees::lent_back` names what the lemmas of proofs/ show.
use Rattle.guarantees.proofs.LentBack.{lent-read-back, one-catalogue, lent-lengths}
use Rattle.guarantees.proofs.lent_back.Goals as goal

pub returns-clause-read_back : goal.returns-clause-read_back
returns-clause-read_back c = lent-read-back

pub returns-clause-one_catalogue : goal.returns-clause-one_catalogue
returns-clause-one_catalogue c = one-catalogue

pub returns-clause-lengths : goal.returns-clause-lengths
returns-clause-lengths c = lent-lengths
