use Rattle.std.specs.Prelude.{◌≡◌, ◌*◌, ◌≤◌, length, take}
use Rattle.model.specs.Bytes.{each}
use Rattle.records.specs.Of.{of}
use Rattle.bytes_layout.specs.Listed.{part_of}
use Rattle.bytes_layout.proofs.total.Given as goal

abbrev pub invariant-loop-j : goal.invariant-loop-j
invariant-loop-j l = (l.sum ≤ l.j-index * 16777216) × (l.sum ≡ length (each (of (part_of l.part) l.object.records) (take l.j-index l.numbers)))
