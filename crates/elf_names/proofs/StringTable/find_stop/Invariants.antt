use Rattle.std.proofs.Common.{◌≡◌, ◌+◌, ◌*◌, ◌-◌, ◌≤◌}
use Rattle.elf_names.specs.Stop.{stop}
use Rattle.elf_names.proofs.StringTable.find_stop.Given as goal

abbrev pub invariant-loop-name : goal.invariant-loop-name
invariant-loop-name l =
    let s = l.self in
    let place = s.start + 1024 * l.j in
    (l.name ≤ place) × (place ≤ s.end) × (stop s.bytes.now s.end place ≡ stop s.bytes.now s.end l.name)

abbrev pub decreases-loop-name : goal.decreases-loop-name
decreases-loop-name l = l.self.end + 1 - (l.self.start + 1024 * l.j)
