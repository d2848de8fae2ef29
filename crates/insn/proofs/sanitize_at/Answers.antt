-- `insn::sanitize_at` meets its contract: what stands before the immediate is as it was, and behind it too.
use Rattle.std.proofs.Common.{◌≡◌, ◌∙◌, ap, rules, ◌+◌, ◌-◌, ◌*◌, drop-drop, w32, arith}
use Rattle.std.proofs.lemmas.Int.{to_z-of_z}
use Rattle.model.specs.declared.BpfInsn.{BpfInsn}
use Rattle.model.specs.Bytes.{AllBytes, little_bytes}
use Rattle.model.specs.Instruction.{unsigned, rewrite}
use Rattle.encoding.specs.Code.{all-bytes}
use Rattle.insn.specs.Slot.{imm-stored}
use Rattle.insn.proofs.Signed.{written-four}
use Rattle.insn.proofs.sanitize_at.Goals as goal

pub returns : goal.returns
returns c =
    let d = c.args.code.now in
    let p = c.args.slot * 8 in
    let bytes : AllBytes d = all-bytes d (λ i. search rules) in
    let fits = to_z-of_z w32 c.sanitize-i.result.imm (search rules) in
    let insn = c.sanitize-i.ensures ∙ ap rewrite c.instruction_at.ensures in
    let imm = c.copy_from_slice.ensures.after ∙ rw fits at c.to_le_bytes.ensures ∙ written-four c.sanitize-i.result.imm ∙ ap (λ (i : BpfInsn). little_bytes 4 (unsigned 2147483648 i.imm)) insn in
    let four : p + 8 - (p + 4) ≡ 4 = omega arith in
    let behind : p + 4 + 4 ≡ p + 8 = omega arith in
    rw (four, drop-drop 4 (p + 4) d, behind) (imm-stored d p (omega arith) bytes _ imm)
