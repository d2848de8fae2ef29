-- `insn::next_call`: the reader stays over the code, no call was met before its slot, and what is left gets less.
use Rattle.std.proofs.Common.{◌≡◌, ◌-◌, ◌/◌, length}
use Rattle.insn.specs.Reading.{instructions_from, next_call}
use Rattle.insn.proofs.next_call.Given as goal

abbrev pub invariant-loop-i : goal.invariant-loop-i
invariant-loop-i l =
    record {
      over : l.reader.bytes.now ≡ l.code;
      same : next_call (instructions_from l.code l.reader.slot) l.reader.slot ≡ next_call (instructions_from l.code l.slot) l.slot;
    }

abbrev pub decreases-loop-i : goal.decreases-loop-i
decreases-loop-i l = length l.code / 8 - l.reader.slot
