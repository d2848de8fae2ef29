-- Where the letters from a place on stop. Names that share bytes stop at the same place.
use Rattle.std.specs.Prelude.{◌≡◌, refl, Bool, true, false, cond, List, [], ◌∷◌, ℕ, zero, suc, ◌+◌, ◌-◌, ◌<◌, ◌≤◌, eqb, length, get_or, take}
use Rattle.std.proofs.Common.{sym, ap, ◌∙◌, le_refl, add-zero, le-leb, eq-eqb, ne_eqb}
use Rattle.std.proofs.Math.Bool.{and-false}
use native.Mathlib.Omega.{arith}
use Rattle.std.proofs.lemmas.Bool.{lt-leb}
use Rattle.std.proofs.lemmas.List.{get_or_default}
use Rattle.std.proofs.Math.ListN.{get_or-eq_default}
use Rattle.std.proofs.Math.Seq.{slice, length-slice, get_or-drop, get_or-take}
use Rattle.lists.specs.Slice.{slice-next}
use Rattle.model.specs.Elf.{up_to_zero}
use Rattle.model.specs.ElfRefusals.{string_ok}
use Rattle.elf_laws.specs.Names.{run, letter, letters-length, string-by-letters}

-- the first place from p on that has no letter, at the latest e
unfoldable pub stop : List ℕ → ℕ → ℕ → ℕ
stop d e p = p + run letter (slice p e d)

run_short : (ok : ℕ → Bool) (s : List ℕ) → run ok s ≤ length s
unfolding run
run_short ok [] = le_refl 0
run_short ok (b ∷ s) = go (ok b) (run_short ok s)
  where
    go : (c : Bool) → run ok s ≤ length s → cond c (suc (run ok s)) 0 ≤ suc (length s)
    go true h = omega arith
    go false h = omega arith

pub stop-from : (d : List ℕ) (e p : ℕ) → p ≤ stop d e p
unfolding stop
stop-from d e p = omega arith

module _ (d : List ℕ) (e : ℕ) (inside : e ≤ length d) where
  pub stop-within : (p : ℕ) → p ≤ e → stop d e p ≤ e
  unfolding stop
  stop-within p h = omega (arith, run_short letter (slice p e d), length-slice p e d inside)

  pub stop-letter : (p : ℕ) → p < e → letter (get_or d p 0) ≡ true → stop d e p ≡ stop d e (p + 1)
  unfolding stop run
  stop-letter p h t = rw (slice-next p e d 0 h inside, t) (omega arith)

  pub stop-other : (p : ℕ) → p < e → letter (get_or d p 0) ≡ false → stop d e p ≡ p
  unfolding stop run
  stop-other p h t = rw (slice-next p e d 0 h inside, t) (omega arith)

  reached : (p n : ℕ) → p + n ≤ stop d e p → p ≤ e → stop d e (p + n) ≡ stop d e p
  reached p zero h l = ap (stop d e) (add-zero p)
  reached p (suc n) h l =
      let m : p + n ≤ stop d e p = omega arith in
      go (letter (get_or d (p + n) 0)) refl (reached p n m l)
    where
      go : (b : Bool) → letter (get_or d (p + n) 0) ≡ b → stop d e (p + n) ≡ stop d e p → stop d e (p + suc n) ≡ stop d e p
      go true t r =
          let k : p + suc n ≡ p + n + 1 = omega arith in
          ap (stop d e) k ∙ sym (stop-letter (p + n) (omega (arith, stop-within p l)) t) ∙ r
      go false t r = let z : ⊥ = omega (arith, stop-within p l, stop-other (p + n) (omega (arith, stop-within p l)) t) in absurd z

  -- from a place that the letters reach on
  pub stop-same : (p c : ℕ) → p ≤ c → c ≤ stop d e p → p ≤ e → stop d e c ≡ stop d e p
  stop-same p c a b l =
      let k : p + (c - p) ≡ c = omega arith in
      ap (stop d e) (sym k) ∙ reached p (c - p) (omega arith) l

-- ---- 26 on a name by the place where it stops

module _ (d : List ℕ) (e : ℕ) (inside : e ≤ length d) (p : ℕ) (before : p ≤ e) where
  -- what stands there
  next-is : stop d e p < e → get_or (slice p e d) (run letter (slice p e d)) 1 ≡ get_or d (stop d e p) 0
  unfolding stop
  next-is h =
      get_or-drop p (take e d) (run letter (slice p e d)) 1
      ∙ get_or-take e d (p + run letter (slice p e d)) 1 h
      ∙ get_or_default d (p + run letter (slice p e d)) 1 0 (omega arith)

  next-none : stop d e p ≡ e → get_or (slice p e d) (run letter (slice p e d)) 1 ≡ 1
  unfolding stop
  next-none h = get_or-eq_default (slice p e d) 1 (omega (arith, length-slice p e d inside))

  letters-are : run letter (slice p e d) ≡ stop d e p - p
  unfolding stop
  letters-are = omega arith

  pub name-long : 65535 < stop d e p - p → string_ok (slice p e d) ≡ false
  name-long h =
      let m : 65535 < run letter (slice p e d) = rw letters-are h in
      string-by-letters (slice p e d)
      ∙ rw (lt-leb (run letter (slice p e d)) 65535 m) (and-false (eqb (get_or (slice p e d) (run letter (slice p e d)) 1) 0))

  pub name-cut : stop d e p ≡ e → string_ok (slice p e d) ≡ false
  name-cut h = string-by-letters (slice p e d) ∙ rw (next-none h)

  pub name-other : stop d e p < e → (get_or d (stop d e p) 0 ≡ 0 → ⊥) → string_ok (slice p e d) ≡ false
  name-other h z = string-by-letters (slice p e d) ∙ rw (next-is h, ne_eqb (get_or d (stop d e p) 0) 0 z)

  pub name-fine : stop d e p < e → get_or d (stop d e p) 0 ≡ 0 → stop d e p - p ≤ 65535 → string_ok (slice p e d) ≡ true
  name-fine h z m =
      string-by-letters (slice p e d) ∙ rw (next-is h, eq-eqb (get_or d (stop d e p) 0) 0 z, letters-are, le-leb (stop d e p - p) 65535 m)

  pub name-size : stop d e p < e → get_or d (stop d e p) 0 ≡ 0 → length (up_to_zero (slice p e d)) ≡ stop d e p - p
  name-size h z = letters-length (slice p e d) (rw (next-is h) (eq-eqb (get_or d (stop d e p) 0) 0 z)) ∙ letters-are
