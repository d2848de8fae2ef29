use Rattle.license.proofs.Walk.{Walk}
use Rattle.license.proofs.parse_license.Given as goal

abbrev pub invariant-loop : goal.invariant-loop
invariant-loop l = Walk l.section.stream.bytes.now l.section.stream.gap l.section.at l.counter l.run
