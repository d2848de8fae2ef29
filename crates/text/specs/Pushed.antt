-- Text behind text, as far as there is room for n bytes in all.
use Rattle.std.specs.Prelude.{◌≡◌, refl, Bool, true, false, List, [], ◌++◌, ℕ, ◌+◌, ◌-◌, ◌<◌, ◌≤◌, min, ltb, length, take}
use Rattle.std.proofs.Common.{sym, ap, ◌∙◌, arith, ltb-true, ltb-false, length-append, length-take, take_all, append_assoc, append-nil}
use Rattle.std.proofs.Math.Seq.{take-append-add, take-nil}
use Rattle.std.proofs.lemmas.List.{take-append-le}

abbrev pub pushed : ℕ → List ℕ → List ℕ → List ℕ
pushed n old x = old ++ take (n - length old) x

-- what m bytes have room for of two texts
module _ (m : ℕ) (x y : List ℕ) where
  both : take m x ++ take (m - min m (length x)) y ≡ take m (x ++ y)
  both = go (ltb m (length x)) refl
    where
      go : (b : Bool) → ltb m (length x) ≡ b → take m x ++ take (m - min m (length x)) y ≡ take m (x ++ y)
      go true e =
          let h : m < length x = ltb-true _ _ e in
          let z : m - min m (length x) ≡ 0 = omega arith in
          rw z (append-nil (take m x)) ∙ sym (take-append-le m x y (omega arith))
      go false e =
          let h : length x ≤ m = ltb-false _ _ e in
          let k : m - min m (length x) ≡ m - length x = omega arith in
          let q : length x + (m - length x) ≡ m = omega arith in
          rw (k, take_all m x h) (sym (rw q at (take-append-add x y (m - length x))))

module _ (n : ℕ) (w x y : List ℕ) where
  pushed-both : pushed n (pushed n w x) y ≡ pushed n w (x ++ y)
  pushed-both =
      let e : n - length (w ++ take (n - length w) x) ≡ n - length w - min (n - length w) (length x) = rw (length-append, length-take) (omega arith) in
      ap (λ k. (w ++ take (n - length w) x) ++ take k y) e
      ∙ append_assoc w (take (n - length w) x) (take (n - length w - min (n - length w) (length x)) y)
      ∙ ap (λ l. w ++ l) (both (n - length w) x y)

  -- one text behind the other
  pub then : {u v : List ℕ} → u ≡ pushed n w x → v ≡ pushed n u y → v ≡ pushed n w (x ++ y)
  then {u} {v} a b = b ∙ ap (λ l. pushed n l y) a ∙ pushed-both

-- nothing behind a text
pub none : (n : ℕ) (w : List ℕ) → w ≡ pushed n w []
none n w = sym (rw take-nil (append-nil w))

-- another word for the text
pub same_text : (n : ℕ) (w : List ℕ) {x y v : List ℕ} → x ≡ y → v ≡ pushed n w x → v ≡ pushed n w y
same_text n w e a = a ∙ ap (pushed n w) e

-- behind nothing, and with room for all of it
pub whole-text : (n : ℕ) {x v : List ℕ} → length x ≤ n → v ≡ pushed n [] x → v ≡ x
whole-text n {x} {v} h a =
    let z : n - 0 ≡ n = omega arith in
    let e : take (n - 0) x ≡ x = rw z (take_all n x h) in
    a ∙ e

-- ---- one copy: the first n bytes of s, those that there is room for, behind the first k bytes of an array of m

module _ (m k n : ℕ) (bytes s ys : List ℕ) (e : length bytes ≡ m) (h : k ≤ m) (most : n ≡ min (length s) (m - k)) (is : ys ≡ take n s) where
  front-is : take n s ≡ take (m - k) s
  front-is = go (ltb (length s) (m - k)) refl
    where
      go : (b : Bool) → ltb (length s) (m - k) ≡ b → take n s ≡ take (m - k) s
      go true f = let g : length s < m - k = ltb-true _ _ f in take_all n s (omega arith) ∙ sym (take_all (m - k) s (omega arith))
      go false f = let g : m - k ≤ length s = ltb-false _ _ f in let q : n ≡ m - k = omega arith in ap (λ i. take i s) q

  pub copied : take k bytes ++ ys ≡ pushed m (take k bytes) s
  copied =
      let l : length (take k bytes) ≡ k = rw length-take (omega arith) in
      ap (λ y. take k bytes ++ y) (is ∙ front-is ∙ ap (λ j. take (m - j) s) (sym l))

  pub copied-length : k + n ≡ k + length ys
  copied-length = rw (is, length-take) (omega arith)
