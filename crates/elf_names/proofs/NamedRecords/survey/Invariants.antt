use Rattle.std.proofs.Common.{◌≡◌, ◌++◌, length, drop}
use Rattle.lists.specs.Tab.{tab}
use Rattle.model.specs.Deposit.{all}
use Rattle.model.specs.ElfRefusals.{string_ok}
use Rattle.elf_names.specs.Lengths.{string_table, name_offset, strings_ok, string_lengths}
use Rattle.elf_names.specs.Told.{MemoHolds}
use Rattle.elf_names.proofs.NamedRecords.survey.Given as goal

abbrev pub invariant-loop-i : goal.invariant-loop-i
invariant-loop-i l =
    let r = l.self in
    let s = r.names in
    let d = s.bytes.now in
    let n = length l.initial.lens in
    MemoHolds d s.start s.end l.memo
    × (l.lens ≡ string_lengths r.order d r.at r.width s.start s.end l.i ++ drop l.i l.initial.lens)
    × (strings_ok r.order d r.at r.width s.start s.end n
    ≡ all (λ o. string_ok (drop o (string_table d s.start s.end))) (drop l.i (tab (name_offset r.order d r.at r.width) n)))
