use Rattle.std.proofs.Common.{◌-◌, length}
use Rattle.test_program_section.proofs.run.Given as goal

abbrev pub decreases-loop-at : goal.decreases-loop-at
decreases-loop-at g l = length l.names - l.at
