-- Tests of all of a list: of those that are kept, and of a table by number.
use Rattle.std.specs.Prelude.{◌≡◌, Bool, ◌&&◌, ◌||◌}
use Rattle.std.proofs.Math.Path.{refl, ap}
use Rattle.std.proofs.Common.{sym, ◌∙◌, not-suc-le-zero, le_of_suc-le-suc, eq-or-lt_of_le, arith}
use Rattle.std.proofs.Math.Bool.{true, false, not}
use mathlib.Core.List.{List, [], ◌∷◌, ◌++◌}
use Rattle.std.proofs.Math.Logic.{⊎_elim}
use Prim.Native.Nat.{ℕ, zero, suc, ◌<◌}
use Rattle.lists.specs.Tab.{tab}
use Rattle.lists.specs.Tests.{both_true}
use Rattle.model.specs.Bytes.{push, keep}
use Rattle.model.specs.Deposit.{all}

module _ {A : Type 0} where
  all-last : (p : A → Bool) (x : A) (l : List A) → all p (l ++ (x ∷ [])) ≡ (all p l && p x)
  unfolding all
  all-last p x [] = go (p x)
    where
      go : (b : Bool) → (b && true) ≡ b
      go true = refl
      go false = refl
  all-last p x (y ∷ l) = go (p y) (all-last p x l)
    where
      go : (b : Bool) → all p (l ++ (x ∷ [])) ≡ (all p l && p x) → (b && all p (l ++ (x ∷ []))) ≡ ((b && all p l) && p x)
      go true h = h
      go false h = refl

  -- a test of those kept is a test of all that lets the others pass
  pub all-of-kept : (q p : A → Bool) (l : List A) → all p (keep q l) ≡ all (λ x. not (q x) || p x) l
  unfolding keep all
  all-of-kept q p [] = refl
  all-of-kept q p (x ∷ l) = go (q x) (all-of-kept q p l)
    where
      go : (b : Bool) → all p (keep q l) ≡ all (λ y. not (q y) || p y) l
          → all p (push b x (keep q l)) ≡ ((not b || p x) && all (λ y. not (q y) || p y) l)
      go true h = ap (λ (t : Bool). p x && t) h
      go false h = h

module _ {A : Type 0} (g : ℕ → A) (p : A → Bool) where
  pub all-tab : (n : ℕ) → ((i : ℕ) → i < n → p (g i) ≡ true) → all p (tab g n) ≡ true
  unfolding tab all
  all-tab zero h = refl
  all-tab (suc n) h = all-last p (g n) (tab g n) ∙ rw (all-tab n (λ i l. h i (omega arith))) (h n (omega arith))

  pub all-tab-at : (n i : ℕ) → i < n → all p (tab g n) ≡ true → p (g i) ≡ true
  unfolding tab
  all-tab-at zero i l e = absurd (not-suc-le-zero l)
  all-tab-at (suc n) i l e =
      let (a, b) = both_true (all p (tab g n)) (p (g n)) (sym (all-last p (g n) (tab g n)) ∙ e) in
      ⊎_elim (λ (q : i ≡ n). rw q b) (λ (m : i < n). all-tab-at n i m a) (eq-or-lt_of_le (le_of_suc-le-suc l))
