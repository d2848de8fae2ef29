-- The contract of `guarantees::demand_3` names what the lemmas of proofs/ show.
use Rattle.guarantees.proofs.Demand3.{demand-3-first, demand-3-second, map-bytes, last_entry, no-entry, entry-passed-over, immediates, later-call}
use Rattle.guarantees.proofs.demand_3.Goals as goal

pub returns-clause-first : goal.returns-clause-first
returns-clause-first c = demand-3-first

pub returns-clause-second : goal.returns-clause-second
returns-clause-second c = demand-3-second

pub returns-clause-map_bytes : goal.returns-clause-map_bytes
returns-clause-map_bytes c = map-bytes

pub returns-clause-last_entry : goal.returns-clause-last_entry
returns-clause-last_entry c = last_entry

pub returns-clause-no_entry : goal.returns-clause-no_entry
returns-clause-no_entry c = no-entry

pub returns-clause-entry_passed_over : goal.returns-clause-entry_passed_over
returns-clause-entry_passed_over c = entry-passed-over

pub returns-clause-immediates : goal.returns-clause-immediates
returns-clause-immediates c = immediates

pub returns-clause-later_call : goal.returns-clause-later_call
returns-clause-later_call c = later-call
