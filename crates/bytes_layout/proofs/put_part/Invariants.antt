use Rattle.std.specs.Prelude.{take, drop}
use Rattle.model.specs.Bytes.{each}
use Rattle.records.specs.Of.{of}
use Rattle.bytes_layout.specs.Laid.{Laid}
use Rattle.bytes_layout.specs.Listed.{part_of}
use Rattle.bytes_layout.proofs.put_part.Given as goal

abbrev pub invariant-loop-j : goal.invariant-loop-j
invariant-loop-j l =
    let f = of (part_of l.part) l.object.records in
    Laid l.initial.out (each f (take l.j-index l.numbers)) (each f (drop l.j-index l.numbers)) l.at l.out
