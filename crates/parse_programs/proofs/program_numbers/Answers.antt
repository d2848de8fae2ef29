-- `parse_programs::program_numbers` meets its contract: a program's number is put behind those of the programs before it.
use Rattle.std.proofs.Common.{arith}
use Rattle.std.proofs.lemmas.Grind.{common_steps}
use Rattle.parse_programs.proofs.Programs.{programs_more}
use Rattle.parse_programs.proofs.program_numbers.Goals as goal
use Rattle.parse_programs.proofs.program_numbers.Goals.{then-is_program, else-is_program}

pub loop-j-preserved : goal.loop-j-preserved
loop-j-preserved c =
    elim c.if-is_program.branch [ then-is_program w ↦ grind (arith, common_steps, programs_more) | else-is_program w ↦ grind (arith, common_steps, programs_more) ]
