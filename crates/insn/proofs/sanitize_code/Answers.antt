-- `insn::sanitize_code` meets its contract. The loop's invariant: the slots before the call are rewritten, and the rest is as it was.
use Rattle.std.proofs.Common.{◌∙◌, sym, ap, ℕ, ◌+◌, ◌*◌, List, arith, rules}
use Rattle.model.specs.Bytes.{AllBytes}
use Rattle.encoding.specs.Code.{all-bytes}
use Rattle.insn.specs.Sanitized.{slots-none, slots-more}
use Rattle.insn.specs.Slot.{sanitized_at}
use Rattle.insn.specs.Reading.{instructions_from, call_from, call-inside, calls-passed}
use Rattle.insn.proofs.sanitize_code.Goals as goal

pub loop-slot-init : goal.loop-slot-init
loop-slot-init c =
    let d = c.args.code.now in
    let bytes : AllBytes d = all-bytes d (λ i. search rules) in
    rw c.next_call-slot.ensures (call-inside d 0 (omega arith), calls-passed d d bytes 0 (sym (slots-none d)))

pub loop-slot-smaller : goal.loop-slot-smaller
loop-slot-smaller c = omega (arith, call_from (instructions_from c.sanitize_at.new.code (c.loop-slot.slot + 1)) (c.loop-slot.slot + 1))

-- a call is rewritten, and the next one is looked for
pub loop-slot-preserved : goal.loop-slot-preserved
loop-slot-preserved c =
    let d = c.args.code.now in
    let code = c.sanitize_at.new.code in
    let slot = c.loop-slot.slot in
    let bytes : AllBytes code = all-bytes code (λ i. search rules) in
    let rewritten = c.sanitize_at.ensures ∙ ap (λ (l : List ℕ). sanitized_at l (slot * 8)) c.loop-slot.invariant.1 ∙ slots-more slot d in
    rw c.next_call-slot-in-loop-slot.ensures (omega (arith, call-inside code (slot + 1) (omega arith)), calls-passed d code bytes (slot + 1) rewritten)
