-- `elf_names::StringTable::learn_stop` meets its contract: what is filled in holds.
use Rattle.elf_names.specs.Memo.{memo-more}
use Rattle.elf_names.proofs.StringTable.learn_stop.Goals as goal

pub returns : goal.returns
returns c =
    let f = c.find_stop-past in
    let s = c.args.self in (
      f.ensures,
      memo-more s.bytes.now s.start s.end c.args.name f.result c.args.memo.now c.fill.new.memo s.inside c.requires.0 c.requires.1
          (f.ensures.is c.if-past-name-gt-LONGEST.false) c.requires.3 c.fill.ensures,
    )
