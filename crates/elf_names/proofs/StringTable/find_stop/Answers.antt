-- `elf_names::StringTable::find_stop` meets its contract: the letters of the name reach each place that is looked at, so that they stop where those from there on stop.
use Rattle.std.proofs.Common.{◌≡◌, sym, ◌∙◌, ◌+◌, ◌-◌, ◌*◌, arith}
use Rattle.std.proofs.lemmas.Grind.{common_steps}
use Rattle.elf_names.specs.Stop.{stop-within, stop-same}
use Rattle.elf_names.specs.Told.{stopped-at}
use Rattle.elf_names.proofs.StringTable.find_stop.Goals as goal

pub returns-then-known-ne0 : goal.returns-then-known-ne0
returns-then-known-ne0 c =
    let s = c.args.self in
    let past = c.unwrap_or-known.result - 1 in
    stopped-at s.bytes.now s.end c.args.name past (sym (c.requires.3 c.loop-name.j past (grind (arith, common_steps))) ∙ c.loop-name.invariant.2)

pub loop-name-preserved : goal.loop-name-preserved
loop-name-preserved c =
    let s = c.args.self in
    let place = s.start + 1024 * c.loop-name.j in
    let e : s.start + 1024 * (c.loop-name.j + 1) ≡ place + 1024 = omega arith in (
      omega arith,
      omega (arith, stop-within s.bytes.now s.end s.inside place (omega arith)),
      rw e (stop-same s.bytes.now s.end s.inside place (place + 1024) (omega arith) (omega arith) (omega arith) ∙ c.loop-name.invariant.2),
    )
