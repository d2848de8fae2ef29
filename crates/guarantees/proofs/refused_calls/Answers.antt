-- The contract of `guarantees::refused_calls` names what the lemmas of proofs/ show.
use Rattle.guarantees.proofs.RefusedCalls.{refused-zeroes, refused-names, only-24}
use Rattle.guarantees.proofs.refused_calls.Goals as goal

pub returns-clause-zeroes : goal.returns-clause-zeroes
returns-clause-zeroes c = refused-zeroes

pub returns-clause-names : goal.returns-clause-names
returns-clause-names c = refused-names

pub returns-clause-only_24 : goal.returns-clause-only_24
returns-clause-only_24 c = only-24
