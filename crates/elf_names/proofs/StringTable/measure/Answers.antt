-- `elf_names::StringTable::measure` meets its contract: what is told of the name where it lies.
use Rattle.elf_names.specs.Told.{told-past, told-there}
use Rattle.elf_names.proofs.StringTable.measure.Goals as goal

pub returns-then-self-offset : goal.returns-then-self-offset
returns-then-self-offset c =
    let s = c.args.self in
    (told-past s.bytes.now s.start s.end c.args.offset c.if-self-offset.true, c.requires)

pub returns-then-near-name : goal.returns-then-near-name
returns-then-near-name c =
    let s = c.args.self in
    (told-there _ s.bytes.now s.start s.end c.args.offset c.judge.result c.judge.ensures, c.requires)

pub returns : goal.returns
returns c =
    let s = c.args.self in
    (told-there _ s.bytes.now s.start s.end c.args.offset c.judge-2.result c.judge-2.ensures, c.learn_stop-far.ensures.1)
