-- Tests that hold of a whole list, at one of its elements.
use Rattle.std.specs.Prelude.{◌≡◌, Bool, ◌||◌, not, ℕ, ◌<◌, None, Some}
use Rattle.std.proofs.Math.Path.{refl}
use Rattle.std.proofs.Common.{sym, ◌∙◌}
use Rattle.std.proofs.Math.Bool.{true, false, cond}
use mathlib.Core.List.{List, [], ◌∷◌}
use Rattle.lists.specs.Tab.{tab}
use Rattle.lists.specs.Tests.{not_some, both_true}
use Rattle.model.specs.Bytes.{push, keep, or_else, first_in, find}
use Rattle.model.specs.Deposit.{all}
use Rattle.elf_laws.specs.All.{all-of-kept, all-tab-at}

module _ {A : Type 0} (ok : A → Bool) where
  -- a weaker test
  pub passed-weaker : (p : A → Bool) → ((x : A) → ok x ≡ true → p x ≡ true) → (l : List A) → all ok l ≡ true → all p l ≡ true
  unfolding all
  passed-weaker p w [] a = refl
  passed-weaker p w (x ∷ l) a = let (h, t) = both_true (ok x) (all ok l) a in rw (w x h) (passed-weaker p w l t)

  -- the one that another test found, which passed that test too
  pub passed-found : (p : A → Bool) (l : List A) (x : A) → find p l ≡ Some x → all ok l ≡ true → (p x ≡ true) × (ok x ≡ true)
  unfolding find first_in all
  passed-found p [] x e a = not_some x (sym e)
  passed-found p (y ∷ l) x e a = go (p y) refl e (λ q. passed-found p l x q (both_true (ok y) (all ok l) a).1)
    where
      go : (b : Bool) → p y ≡ b → or_else (cond b (Some y) None) (first_in (λ z. cond (p z) (Some z) None) l) ≡ Some x
          → (first_in (λ z. cond (p z) (Some z) None) l ≡ Some x → (p x ≡ true) × (ok x ≡ true)) → (p x ≡ true) × (ok x ≡ true)
      go true t q r = let i : y ≡ x = cc in rw (← i) (t, (both_true (ok y) (all ok l) a).0)
      go false t q r = r q

  -- those that another test keeps
  pub passed-kept : (p : A → Bool) (l : List A) → all ok l ≡ true → all ok (keep p l) ≡ true
  unfolding all keep
  passed-kept p [] a = refl
  passed-kept p (x ∷ l) a = let (h, t) = both_true (ok x) (all ok l) a in go (p x) h (passed-kept p l t)
    where
      go : (b : Bool) → ok x ≡ true → all ok (keep p l) ≡ true → all ok (push b x (keep p l)) ≡ true
      go true h r = rw h r
      go false h r = r

-- number i of a list by number, which another test keeps
pub kept-tab : {A : Type 0} (ok p : A → Bool) (g : ℕ → A) (n i : ℕ) → all ok (keep p (tab g n)) ≡ true → i < n → p (g i) ≡ true → ok (g i) ≡ true
kept-tab ok p g n i a l e = rw e at (all-tab-at g (λ x. not (p x) || ok x) n i l (sym (all-of-kept p ok (tab g n)) ∙ a))

-- what is kept passed the test
pub kept-passed : {A : Type 0} (p : A → Bool) (l : List A) → all p (keep p l) ≡ true
unfolding all keep
kept-passed p [] = refl
kept-passed p (x ∷ l) = go (p x) refl (kept-passed p l)
  where
    go : (b : Bool) → p x ≡ b → all p (keep p l) ≡ true → all p (push b x (keep p l)) ≡ true
    go true h r = rw h r
    go false h r = r
