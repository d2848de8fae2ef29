use Rattle.elf_names.specs.Told.{Filled}
use Rattle.elf_names.proofs.fill.Given as goal

abbrev pub invariant-loop-j : goal.invariant-loop-j
invariant-loop-j l = Filled l.from l.to l.v l.initial.memo l.memo
