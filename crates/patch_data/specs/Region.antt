-- Pieces laid one after the other: bytes stored inside one of them, and the places that the rows of the map table say.
use Rattle.std.specs.Prelude.{◌≡◌, take, drop}
use Rattle.std.proofs.Math.Path.{refl, sym, ap}
use Rattle.std.proofs.Common.{◌∙◌, not-suc-le-zero, le_of_suc-le-suc, add-zero, drop-drop}
use mathlib.Core.List.{List, [], ◌∷◌, ◌++◌, map, append_assoc}
use Prim.Native.Nat.{ℕ, zero, suc, ◌+◌, ◌-◌, ◌*◌, ◌<◌, ◌≤◌}
use native.Mathlib.Omega.{arith}
use Rattle.std.proofs.Math.ListN.{length, get_or, length-append}
use Rattle.std.proofs.Math.Seq.{sets, take-append-add, drop-append-add, get_or-append-add}
use Rattle.std.proofs.lemmas.List.Edits.{sets-eq}
use Rattle.std.proofs.lemmas.List.{take-append-le, drop-append-le}
use Rattle.model.specs.Bytes.{each}
use Rattle.model.specs.Catalogue.{Map}
use Rattle.model.specs.Lent.{map_name, map_own, map_row, placed, joined}

sets-left : (xs ys vs : List ℕ) (i : ℕ) → i + length vs ≤ length xs → sets (xs ++ ys) i vs ≡ sets xs i vs ++ ys
sets-left xs ys vs i h =
    let l : i + length vs ≤ length (xs ++ ys) = rw length-append (omega arith) in
    let k : i ≤ length xs = omega arith in
    sets-eq vs (xs ++ ys) i l ∙ rw (take-append-le i xs ys k, drop-append-le (i + length vs) xs ys h, sets-eq vs xs i h) (simp append_assoc)

sets-right : (xs ys vs : List ℕ) (i : ℕ) → i + length vs ≤ length ys → sets (xs ++ ys) (length xs + i) vs ≡ xs ++ sets ys i vs
sets-right xs ys vs i h =
    let l : length xs + i + length vs ≤ length (xs ++ ys) = rw length-append (omega arith) in
    let e : length xs + i + length vs ≡ length xs + (i + length vs) = omega arith in
    sets-eq vs (xs ++ ys) (length xs + i) l
    ∙ rw (e, take-append-add xs ys i, drop-append-add xs ys (i + length vs), sets-eq vs ys i h) (simp append_assoc)

module _ (f g : ℕ → List ℕ) where
  pub each-kept : (ns : List ℕ) → ((r : ℕ) → r < length ns → g (get_or ns r 0) ≡ f (get_or ns r 0)) → each f ns ≡ each g ns
  unfolding each
  each-kept [] h = refl
  each-kept (n ∷ ns) h = λ k. sym (h 0 (omega arith)) k ++ each-kept ns (λ r l. h (suc r) (omega arith)) k

  pub each-length : ((n : ℕ) → length (f n) ≡ length (g n)) → (ns : List ℕ) → length (each f ns) ≡ length (each g ns)
  unfolding each
  each-length h [] = refl
  each-length h (n ∷ ns) = rw (length-append (f n) (each f ns), length-append (g n) (each g ns), h n, each-length h ns)

  -- stored inside the piece of number q
  pub each-sets : (ns : List ℕ) (q a : ℕ) (vs : List ℕ) → q < length ns → a + length vs ≤ length (f (get_or ns q 0))
      → g (get_or ns q 0) ≡ sets (f (get_or ns q 0)) a vs → ((r : ℕ) → r < length ns → (r ≡ q → ⊥) → g (get_or ns r 0) ≡ f (get_or ns r 0))
      → sets (each f ns) (length (each f (take q ns)) + a) vs ≡ each g ns
  unfolding each
  each-sets [] q a vs l h e o = absurd (not-suc-le-zero l)
  each-sets (n ∷ ns) zero a vs l h e o =
      let z : 0 + a ≡ a = omega arith in
      ap (λ k. sets (f n ++ each f ns) k vs) z
      ∙ sets-left (f n) (each f ns) vs a h
      ∙ (λ k. sym e k ++ each-kept ns (λ r m. o (suc r) (omega arith) (λ z. omega arith)) k)
  each-sets (n ∷ ns) (suc q) a vs l h e o =
      let p : length (f n ++ each f (take q ns)) + a ≡ length (f n) + (length (each f (take q ns)) + a) = rw length-append (omega arith) in
      let i : length (each f (take q ns)) + a + length vs ≤ length (each f ns) = room ns q a (length vs) (le_of_suc-le-suc l) h in
      ap (λ k. sets (f n ++ each f ns) k vs) p
      ∙ sets-right (f n) (each f ns) vs (length (each f (take q ns)) + a) i
      ∙ (λ k. sym (o 0 (omega arith) (λ z. omega arith)) k ++ each-sets ns q a vs (le_of_suc-le-suc l) h e (λ r m z. o (suc r) (omega arith) (λ y. z (omega arith))) k)
    where
      room : (ns : List ℕ) (q a m : ℕ) → q < length ns → a + m ≤ length (f (get_or ns q 0)) → length (each f (take q ns)) + a + m ≤ length (each f ns)
      room [] q a m l h = absurd (not-suc-le-zero l)
      room (n ∷ ns) zero a m l h = rw (length-append (f n) (each f ns)) (omega arith)
      room (n ∷ ns) (suc q) a m l h =
          rw (length-append (f n) (each f ns), length-append (f n) (each f (take q ns))) (omega (arith, room ns q a m (le_of_suc-le-suc l) h))

-- ---- the place of a map's own bytes, in its row

module _ (f : ℕ → Map) where
  pub own-place : (ns : List ℕ) (q a b : ℕ) → q < length ns
      → get_or (joined (placed map_name map_own map_row a b (map f ns))) (27 * q + 5) 0 ≡ b + length (each (λ n. map_own (f n)) (take q ns))
  unfolding placed each map_row
  own-place [] q a b l = absurd (not-suc-le-zero l)
  own-place (n ∷ ns) zero a b l = sym (add-zero b)
  own-place (n ∷ ns) (suc q) a b l =
      let rest = joined (placed map_name map_own map_row (a + length (map_name (f n))) (b + length (map_own (f n))) (map f ns)) in
      let e : 27 * suc q + 5 ≡ 27 + (27 * q + 5) = omega arith in
      let s : b + length (map_own (f n)) + length (each (λ n. map_own (f n)) (take q ns)) ≡ b + length (map_own (f n) ++ each (λ n. map_own (f n)) (take q ns)) = rw length-append (omega arith) in
      ap (λ k. get_or (map_row a b (f n) ++ rest) k 0) e
      ∙ get_or-append-add (map_row a b (f n)) rest (27 * q + 5) 0
      ∙ own-place ns q (a + length (map_name (f n))) (b + length (map_own (f n))) (le_of_suc-le-suc l)
      ∙ s

-- a part of a list that is lent and copied over as a whole
pub stored : (l src : List ℕ) (at : ℕ) → at + length src ≤ length l → take at l ++ (src ++ drop (at + length src - at) (drop at l)) ≡ sets l at src
stored l src at h =
    let e : at + length src - at ≡ length src = omega arith in
    rw (e, drop-drop (length src) at l, sets-eq src l at h, append_assoc)
