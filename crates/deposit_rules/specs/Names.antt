-- Tests on every byte of a list: from the front, in pieces, and by the least and the greatest of them.
use Rattle.std.specs.Prelude.{◌≡◌, Bool, true, false, ◌&&◌, ℕ, ◌+◌, ◌<◌, min, max, leb, length, get_or, take}
use Rattle.std.proofs.Math.Path.{refl, sym, ap}
use Rattle.std.proofs.Common.{ap₂, ◌∙◌, add-one, arith, leb-true, leb-false, le-leb}
use Rattle.std.proofs.Math.Bool.{and_assoc, and-true}
use mathlib.Core.List.{List, [], ◌∷◌, ◌++◌}
use Rattle.std.proofs.lemmas.Bool.{lt-leb}
use Rattle.std.proofs.Math.Seq.{take-suc}
use Rattle.std.specs.List.{list_all}
use Rattle.model.specs.Deposit.{all}
use Rattle.deposit_rules.specs.Rules.{name_byte}

module _ {A : Type 0} (p : A → Bool) where
  pub all_append : (xs ys : List A) → all p (xs ++ ys) ≡ (all p xs && all p ys)
  unfolding all
  all_append [] ys = refl
  all_append (x ∷ xs) ys = ap (λ (b : Bool). p x && b) (all_append xs ys) ∙ sym (and_assoc (p x) (all p xs) (all p ys))

  -- one more
  pub all_more : (b : List A) (k : ℕ) (x : A) → k < length b → all p (take (k + 1) b) ≡ (all p (take k b) && p (get_or b k x))
  unfolding all
  all_more b k x h =
      rw (add-one, take-suc b k x h) (all_append (take k b) (get_or b k x ∷ []) ∙ ap (λ (c : Bool). all p (take k b) && c) (and-true (p (get_or b k x))))

  -- as std says it
  pub all-list : (xs : List A) → list_all p xs ≡ all p xs
  unfolding all
  all-list [] = refl
  all-list (x ∷ xs) = ap (λ (b : Bool). p x && b) (all-list xs)

leb-min : (c a b : ℕ) → leb c (min a b) ≡ (leb c a && leb c b)
leb-min c a b = go (leb c a) refl (leb c b) refl
  where
    go : (s : Bool) → leb c a ≡ s → (t : Bool) → leb c b ≡ t → leb c (min a b) ≡ (s && t)
    go true e true f = le-leb c (min a b) (omega (arith, leb-true c a e, leb-true c b f))
    go true e false f = lt-leb c (min a b) (omega (arith, leb-true c a e, leb-false c b f))
    go false e t f = lt-leb c (min a b) (omega (arith, leb-false c a e))

leb-max : (c a b : ℕ) → leb (max a b) c ≡ (leb a c && leb b c)
leb-max c a b = go (leb a c) refl (leb b c) refl
  where
    go : (s : Bool) → leb a c ≡ s → (t : Bool) → leb b c ≡ t → leb (max a b) c ≡ (s && t)
    go true e true f = le-leb (max a b) c (omega (arith, leb-true a c e, leb-true b c f))
    go true e false f = lt-leb (max a b) c (omega (arith, leb-true a c e, leb-false b c f))
    go false e t f = lt-leb (max a b) c (omega (arith, leb-false a c e))

cross : (a b x y : Bool) → (a && b && (x && y)) ≡ (a && x && (b && y))
cross true true x y = refl
cross true false true y = refl
cross true false false y = refl
cross false b x y = refl

-- the least and the greatest of the bytes passed
abbrev pub between : ℕ → ℕ → Bool
between low high = leb 1 low && leb high 127

pub between_more : (b : List ℕ) (k low high : ℕ) → k < length b → all name_byte (take k b) ≡ between low high
    → all name_byte (take (k + 1) b) ≡ between (min low (get_or b k 0)) (max high (get_or b k 0))
between_more b k low high h e =
    let x : ℕ = get_or b k 0 in
    all_more name_byte b k 0 h
    ∙ ap (λ (c : Bool). c && name_byte x) e
    ∙ cross (leb 1 low) (leb high 127) (leb 1 x) (leb x 127)
    ∙ sym (ap₂ ◌&&◌ (leb-min 1 low x) (leb-max 127 high x))
