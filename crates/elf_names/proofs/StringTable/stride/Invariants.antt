use Rattle.std.proofs.Common.{◌≡◌}
use Rattle.elf_names.specs.Stop.{stop}
use Rattle.elf_names.proofs.StringTable.stride.Given as goal

abbrev pub invariant-loop-k : goal.invariant-loop-k
invariant-loop-k l = stop l.self.bytes.now l.self.end l.k ≡ stop l.self.bytes.now l.self.end l.place
