-- A table walked from the front: which is the first that passes a test, and whether all do.
use Rattle.std.specs.Prelude.{◌≡◌, Bool, ◌⊎◌, None, Some}
use Rattle.std.proofs.Math.Path.{refl}
use Rattle.std.proofs.Common.{sym, ◌∙◌, not-suc-le-zero, le_of_suc-le-suc, eq-or-lt_of_le, arith}
use Rattle.std.proofs.Math.Bool.{true, false, cond}
use mathlib.Core.List.{List, [], ◌∷◌, ◌++◌}
use Rattle.std.proofs.Math.Logic.{inl, inr, ⊎_elim}
use Prim.Native.Nat.{ℕ, zero, suc, ◌<◌}
use Rattle.lists.specs.Tab.{tab}
use Rattle.lists.specs.Tests.{true-not-false}
use Rattle.model.specs.Bytes.{or_else, first_in, find}
use Rattle.model.specs.Deposit.{all}
use Rattle.elf_laws.specs.All.{all-tab-at}

-- ---- tests of lists

module _ {A : Type 0} where
  find-last : (p : A → Bool) (x : A) (l : List A) → find p (l ++ (x ∷ [])) ≡ or_else (find p l) (cond (p x) (Some x) None)
  unfolding find first_in
  find-last p x [] = go (p x)
    where
      go : (b : Bool) → or_else (cond b (Some x) None) None ≡ cond b (Some x) None
      go true = refl
      go false = refl
  find-last p x (y ∷ l) = go (p y) (find-last p x l)
    where
      go : (b : Bool) → find p (l ++ (x ∷ [])) ≡ or_else (find p l) (cond (p x) (Some x) None)
          → or_else (cond b (Some y) None) (find p (l ++ (x ∷ []))) ≡ or_else (or_else (cond b (Some y) None) (find p l)) (cond (p x) (Some x) None)
      go true h = refl
      go false h = h

-- ---- a table

module _ {A : Type 0} (g : ℕ → A) (p : A → Bool) where
  pub find_none : (n : ℕ) → ((i : ℕ) → i < n → p (g i) ≡ false) → find p (tab g n) ≡ None
  unfolding tab find first_in
  find_none zero h = refl
  find_none (suc n) h = find-last p (g n) (tab g n) ∙ rw (find_none n (λ i l. h i (omega arith)), h n (omega arith))

  pub find_first : (n k : ℕ) → k < n → ((i : ℕ) → i < k → p (g i) ≡ false) → p (g k) ≡ true → find p (tab g n) ≡ Some (g k)
  unfolding tab
  find_first zero k l h e = absurd (not-suc-le-zero l)
  find_first (suc n) k l h e =
      find-last p (g n) (tab g n)
      ∙ ⊎_elim
      (λ (q : k ≡ n). rw (find_none n (λ i m. h i (omega arith)), ← q, e))
      (λ (m : k < n). rw (find_first n k m h e))
      (eq-or-lt_of_le (le_of_suc-le-suc l))

  -- the first that passes, and its number
  pub record Hit (n : ℕ) : Type 0 where
    pub at : ℕ
    pub below : at < n
    pub is : find p (tab g n) ≡ Some (g at)
    pub passes : p (g at) ≡ true

  pub find-hit : (n : ℕ) → (find p (tab g n) ≡ None) ⊎ Hit n
  unfolding tab find first_in
  find-hit zero = inl refl
  find-hit (suc n) =
      ⊎_elim (λ e. go e (p (g n)) refl)
      (λ t. inr (record { at = t.at; below = omega (arith, t.below); is = find-last p (g n) (tab g n) ∙ rw t.is; passes = t.passes })) (find-hit n)
    where
      go : find p (tab g n) ≡ None → (b : Bool) → p (g n) ≡ b → (find p (tab g (suc n)) ≡ None) ⊎ Hit (suc n)
      go e true q = inr (record { at = n; below = omega arith; is = find-last p (g n) (tab g n) ∙ rw (e, q); passes = q })
      go e false q = inl (find-last p (g n) (tab g n) ∙ rw (e, q))

  pub all-not : (n i : ℕ) → i < n → p (g i) ≡ false → all p (tab g n) ≡ false
  all-not n i l e = go (all p (tab g n)) refl
    where
      go : (b : Bool) → all p (tab g n) ≡ b → b ≡ false
      go true q = true-not-false (sym (all-tab-at g p n i l q) ∙ e)
      go false q = refl
