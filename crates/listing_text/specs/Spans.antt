-- What of the n bytes from a place on lies in a list.
use Rattle.std.specs.Prelude.{◌≡◌, Bool, true, false, List, ltb, length, drop}
use Rattle.std.proofs.Math.Path.{refl, ap}
use Rattle.std.proofs.Common.{sym, ◌∙◌, take_all, ltb-true, ltb-false, drop_of_length-le}
use Prim.Native.Nat.{ℕ, ◌<◌, ◌≤◌, min}
use native.Mathlib.Omega.{arith}
use Rattle.std.proofs.Math.ListN.{take}
use Rattle.model.specs.Bytes.{part}

take-least : (n : ℕ) (l : List ℕ) → take (min n (length l)) l ≡ take n l
take-least n l = go (ltb n (length l)) refl
  where
    go : (b : Bool) → ltb n (length l) ≡ b → take (min n (length l)) l ≡ take n l
    go true e = let h : n < length l = ltb-true _ _ e in let k : min n (length l) ≡ n = omega arith in rw k
    go false e =
        let h : length l ≤ n = ltb-false _ _ e in
        let k : length l ≤ min n (length l) = omega arith in
        take_all (min n (length l)) l k ∙ sym (take_all n l h)

module _ (b : List ℕ) (from n : ℕ) where
  start-part : (t : Bool) → ltb (length b) from ≡ t → part b (min from (length b)) n ≡ part b from n
  start-part true e =
      let h : length b < from = ltb-true _ _ e in
      let k : length b ≤ min from (length b) = omega arith in
      let l : length b ≤ from = omega arith in
      ap (take n) (drop_of_length-le b k ∙ sym (drop_of_length-le b l))
  start-part false e = let h : from ≤ length b = ltb-false _ _ e in let k : min from (length b) ≡ from = omega arith in rw k

  -- what is cut at the list's end on both sides is the part
  pub cut-part : take (min n (length (drop (min from (length b)) b))) (drop (min from (length b)) b) ≡ part b from n
  cut-part = take-least n (drop (min from (length b)) b) ∙ start-part (ltb (length b) from) refl
