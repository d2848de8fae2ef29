-- Laws of a memo: at the start nothing is known; what is filled in holds, since names that share bytes stop at one place.
use Rattle.std.specs.Prelude.{◌≡◌, List, ℕ, ◌+◌, ◌-◌, ◌*◌, ◌/◌, ◌≤◌, length, replicate}
use Rattle.std.proofs.Common.{sym, ◌∙◌, ⊎_elim, arith}
use Rattle.std.proofs.lemmas.Grind.{common_steps}
use Rattle.elf_names.specs.Stop.{stop, stop-same}
use Rattle.elf_names.specs.Told.{MemoHolds, Filled}

module _ (d : List ℕ) (strings end : ℕ) where
  pub memo-zeros : (n : ℕ) → MemoHolds d strings end (replicate n 0)
  memo-zeros n j q e = absurd (grind (arith, common_steps))

  -- the places between p and q, which is where the letters from p on stop
  pub memo-more : (p q : ℕ) (m₀ m : List ℕ) → end ≤ length d → strings ≤ p → p ≤ end → q ≡ stop d end p → MemoHolds d strings end m₀
      → Filled ((p - strings) / 1024 + 1) ((q - strings) / 1024 + 1) (q + 1) m₀ m → MemoHolds d strings end m
  memo-more p q m₀ m inside a b s h f j r e =
      ⊎_elim
      (λ k. h j r (sym k ∙ e))
      (λ k. let c : r ≡ q = omega (arith, k) in stop-same d end inside p (strings + 1024 * j) (omega (arith, k)) (omega (arith, k)) b ∙ sym s ∙ sym c)
      (f j)
