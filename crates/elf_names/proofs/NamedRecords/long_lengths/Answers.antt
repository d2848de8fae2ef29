-- With a memo of zeros nothing is known yet.
use Rattle.std.proofs.Common.{arith}
use Rattle.std.proofs.lemmas.Grind.{common_steps}
use Rattle.elf_names.specs.Memo.{memo-zeros}
use Rattle.elf_names.proofs.NamedRecords.long_lengths.Goals as goal

pub survey-requires : goal.survey-requires
survey-requires c =
    let s = c.args.self.names in
    (c.requires, memo-zeros s.bytes.now s.start s.end 16384)
