-- What a reader has left to give, what it gives next, and the next call in it. Up to the next call rewriting changes nothing (`calls-passed`).
use Rattle.std.specs.Prelude.{◌≡◌, Option, Some, None, Bool, cond, ℕ, zero, suc, ◌+◌, ◌-◌, ◌*◌, ◌/◌, ◌<◌, ◌≤◌, ltb, length}
use Rattle.std.proofs.Math.Path.{refl, sym, ap}
use Rattle.std.proofs.Common.{◌∙◌, arith, ltb-true, ltb-false, length-drop, drop_of_length-le, drop_at, drop-drop}
use Rattle.std.proofs.Math.Bool.{true, false}
use mathlib.Core.List.{List, [], ◌∷◌, ◌++◌}
use Rattle.std.proofs.Math.Dec.{eqb}
use Rattle.std.proofs.Math.ListN.{drop}
use borrow.Author.Tests.{ne_eqb}
use Rattle.model.specs.declared.BpfInsn.{BpfInsn}
use Rattle.model.specs.Bytes.{part, AllBytes}
use Rattle.model.specs.Instruction.{instruction_of, instructions, rewrite}
use Rattle.insn.specs.Stated.{rewrite-other}
use Rattle.insn.specs.Slot.{sanitized_at, kept}
use Rattle.insn.specs.Sanitized.{slots, slots-more, instructions-split}

-- the instructions of a function's bytes from a slot on
abbrev pub instructions_from : List ℕ → ℕ → List BpfInsn
instructions_from d slot = drop slot (instructions (length d / 8) d)

abbrev pub next_of : List BpfInsn → Option BpfInsn
next_of [] = None
next_of (i ∷ is) = Some i

-- the slot of the first call among instructions that begin at a slot, or the slot behind them all
unfoldable pub next_call : List BpfInsn → ℕ → ℕ
next_call [] slot = slot
next_call (i ∷ is) slot = cond (eqb i.code 0x85) slot (next_call is (slot + 1))

-- ---- what is left

length-instructions : (n : ℕ) (d : List ℕ) → length (instructions n d) ≡ n
unfolding instructions
length-instructions zero d = refl
length-instructions (suc n) d = ap suc (length-instructions n (drop 8 d))

length-left : (d : List ℕ) (slot : ℕ) → length (instructions_from d slot) ≡ length d / 8 - slot
length-left d slot = length-drop slot (instructions (length d / 8) d) ∙ ap (λ (n : ℕ). n - slot) (length-instructions (length d / 8) d)

pub left-some : (d : List ℕ) (slot : ℕ) → slot < length d / 8 → next_of (instructions_from d slot) ≡ Some (instruction_of (part d (slot * 8) 8))
unfolding instructions
left-some d slot h =
    let m = length d / 8 - (slot + 1) in
    let e : length d / 8 ≡ slot + suc m = omega arith in
    ap (λ (n : ℕ). next_of (drop slot (instructions n d))) e
    ∙ rw (instructions-split slot (suc m) d, drop_at (instructions slot d) (instructions (suc m) (drop (slot * 8) d)) slot (length-instructions slot d))

pub left-none : (d : List ℕ) (slot : ℕ) → length d / 8 ≤ slot → next_of (instructions_from d slot) ≡ None
left-none d slot h =
    let l : length (instructions (length d / 8) d) ≤ slot = rw length-instructions h in
    rw (drop_of_length-le (instructions (length d / 8) d) l)

-- one step on
left-more : (d : List ℕ) (slot : ℕ) → instructions_from d (slot + 1) ≡ drop 1 (instructions_from d slot)
left-more d slot = sym (drop-drop 1 slot (instructions (length d / 8) d))

-- an instruction was read only where a whole slot is left
pub read-inside : (d : List ℕ) (slot : ℕ) (i : BpfInsn) → next_of (instructions_from d slot) ≡ Some i → slot < length d / 8
read-inside d slot i e = go (ltb slot (length d / 8)) refl
  where
    go : (b : Bool) → ltb slot (length d / 8) ≡ b → slot < length d / 8
    go true q = ltb-true slot (length d / 8) q
    go false q = let none = left-none d slot (ltb-false slot (length d / 8) q) in cc

-- ---- a search for a call

-- a step of a search: what the first instruction tells
next_call-none : (xs : List BpfInsn) (slot : ℕ) → next_of xs ≡ None → next_call xs slot ≡ slot
unfolding next_call
next_call-none [] slot e = refl
next_call-none (x ∷ xs) slot e = cc

next_call-some : (xs : List BpfInsn) (slot : ℕ) (i : BpfInsn) → next_of xs ≡ Some i → next_call xs slot ≡ cond (eqb i.code 0x85) slot (next_call (drop 1 xs) (slot + 1))
unfolding next_call
next_call-some [] slot i e = cc
next_call-some (x ∷ xs) slot i e = let same : x ≡ i = cc in rw same

-- where a search from a slot on ends, and what it does else
module _ (d : List ℕ) (slot : ℕ) where
  pub search-ends : next_of (instructions_from d slot) ≡ None → next_call (instructions_from d slot) slot ≡ slot
  search-ends = next_call-none (instructions_from d slot) slot

  pub search-meets : (i : BpfInsn) → next_of (instructions_from d slot) ≡ Some i → i.code ≡ 0x85 → next_call (instructions_from d slot) slot ≡ slot
  search-meets i e h = rw h at (next_call-some (instructions_from d slot) slot i e)

  pub search-goes-on : (i : BpfInsn) → next_of (instructions_from d slot) ≡ Some i → (i.code ≡ 0x85 → ⊥)
      → next_call (instructions_from d slot) slot ≡ next_call (instructions_from d (slot + 1)) (slot + 1)
  search-goes-on i e h = rw (left-more, next_call-some (instructions_from d slot) slot i e, ne_eqb i.code 0x85 h)

pub call_from : (xs : List BpfInsn) (slot : ℕ) → slot ≤ next_call xs slot
unfolding next_call
call_from [] slot = omega arith
call_from (i ∷ is) slot = go (next_call is (slot + 1)) (call_from is (slot + 1)) (eqb i.code 0x85)
  where
    go : (n : ℕ) → slot + 1 ≤ n → (b : Bool) → slot ≤ cond b slot n
    go n h true = omega arith
    go n h false = omega arith

call-most : (xs : List BpfInsn) (slot : ℕ) → next_call xs slot ≤ slot + length xs
unfolding next_call
call-most [] slot = omega arith
call-most (i ∷ is) slot = go (next_call is (slot + 1)) (call-most is (slot + 1)) (eqb i.code 0x85)
  where
    go : (n : ℕ) → n ≤ slot + 1 + length is → (b : Bool) → cond b slot n ≤ slot + suc (length is)
    go n h true = omega arith
    go n h false = omega arith

pub call-inside : (d : List ℕ) (slot : ℕ) → slot ≤ length d / 8 → next_call (instructions_from d slot) slot ≤ length d / 8
call-inside d slot h = omega (arith, call-most (instructions_from d slot) slot, length-left d slot)

-- ---- what rewriting changes

no_call : (i : BpfInsn) → eqb i.code 0x85 ≡ false → rewrite i ≡ i
no_call i e = rewrite-other i (rw e)

-- a turn of a loop over the calls: the slots that a search passes over are as rewriting leaves them
module _ (d code : List ℕ) (h : AllBytes code) where
  passes : (xs : List BpfInsn) (k : ℕ) → instructions_from code k ≡ xs → code ≡ slots k d ++ drop (k * 8) d → code ≡ slots (next_call xs k) d ++ drop (next_call xs k * 8) d
  unfolding next_call
  passes [] k e f = f
  passes (i ∷ is) k e f = go (passes is (k + 1) (left-more code k ∙ ap (drop 1) e)) (eqb i.code 0x85) refl
    where
      more : eqb i.code 0x85 ≡ false → code ≡ slots (k + 1) d ++ drop ((k + 1) * 8) d
      more q =
          let l = read-inside code k i (ap next_of e) in
          let some = left-some code k l in
          let is : instruction_of (part code (k * 8) 8) ≡ i = cc (ap next_of e) in
          let same : rewrite (instruction_of (part code (k * 8) 8)) ≡ instruction_of (part code (k * 8) 8) = no_call _ (rw is q) in
          sym (kept code (k * 8) (omega arith) h same) ∙ ap (λ (l : List ℕ). sanitized_at l (k * 8)) f ∙ slots-more k d

      go : (code ≡ slots (k + 1) d ++ drop ((k + 1) * 8) d → code ≡ slots (next_call is (k + 1)) d ++ drop (next_call is (k + 1) * 8) d)
          → (b : Bool) → eqb i.code 0x85 ≡ b → code ≡ slots (cond b k (next_call is (k + 1))) d ++ drop (cond b k (next_call is (k + 1)) * 8) d
      go later true q = f
      go later false q = later (more q)

  pub calls-passed : (k : ℕ) → code ≡ slots k d ++ drop (k * 8) d → code ≡ slots (next_call (instructions_from code k) k) d ++ drop (next_call (instructions_from code k) k * 8) d
  calls-passed k = passes (instructions_from code k) k refl
