-- What is laid one after the other, by a loop over a table of numbers: pieces, and rows with the places of their pieces.
use Rattle.std.specs.Prelude.{◌≡◌, ℕ, ◌+◌, ◌-◌, ◌*◌, ◌<◌, ◌≤◌, get_or, take, drop}
use Rattle.std.proofs.Math.Path.{sym, ap}
use Rattle.std.proofs.Common.{◌∙◌, zero-mul, suc-mul, add-one, arith, length-drop, take-suc, take-add, length-take-le}
use mathlib.Core.List.{List, [], ◌∷◌, ◌++◌, map, append_assoc, append-nil}
use Rattle.std.proofs.Math.Nat.{add-zero}
use Rattle.std.proofs.Math.ListN.{length, length-append}
use Rattle.std.proofs.lemmas.List.{length-map}
use Rattle.std.proofs.lemmas.List.Edits.{sets, sets-eq}
use Rattle.lists.specs.Tab.{append-put}
use Rattle.model.specs.Bytes.{each}
use Rattle.model.specs.Lent.{placed, joined}
use Rattle.catalogue_laws.specs.Numbers.{map-append, each_append, each_map}

-- ---- stores

module _ {A : Type 0} where
  -- what is laid in a list leaves its length
  pub length-laid : (w o : ℕ) (xs t : List A) → o ≡ w + length xs → o ≤ length t → length (take w t ++ (xs ++ drop o t)) ≡ length t
  length-laid w o xs t e h = rw (length-append, length-append, length-take-le w t (omega arith), length-drop) (omega arith)

  -- ys is laid at o, behind xs, which lies in t from w on
  pub lay-more : (w o m : ℕ) (xs ys t : List A) → o ≡ w + length xs → length ys ≡ m → o + m ≤ length t
      → take o (take w t ++ (xs ++ drop o t)) ++ (ys ++ drop (o + m) (take w t ++ (xs ++ drop o t))) ≡ take w t ++ ((xs ++ ys) ++ drop (o + m) t)
  lay-more w o m xs ys t e f h =
      let lr : length (take w t ++ xs) ≡ o = rw (length-append, length-take-le w t (omega arith)) (sym e) in
      let put : take o ((take w t ++ xs) ++ drop o t) ++ (ys ++ drop (o + m) ((take w t ++ xs) ++ drop o t)) ≡ ((take w t ++ xs) ++ ys) ++ drop (o + m) t =
      rw f at (append-put (take w t ++ xs) ys t o lr (rw f h))
      in
      ap (λ (l : List A). take o l ++ (ys ++ drop (o + m) l)) (sym (append_assoc (take w t) xs (drop o t)))
      ∙ put
      ∙ simp append_assoc

  -- a row is stored behind R, in a table whose front is R
  pub row_put : (R x t : List A) (o w : ℕ) → length R ≡ o → length x ≡ w → o + w ≤ length t → sets (R ++ drop o t) o x ≡ (R ++ x) ++ drop (o + w) t
  row_put R x t o w e f h =
      let g : o + length x ≤ length t = rw f h in
      let room : o + length x ≤ length (R ++ drop o t) = rw (length-append, length-drop, e) (omega arith) in
      sets-eq x (R ++ drop o t) o room
      ∙ append_assoc (take o (R ++ drop o t)) x (drop (o + length x) (R ++ drop o t))
      ∙ append-put R x t o e g
      ∙ rw f

-- ---- pieces: one for each number of a table

module _ {A B : Type 0} (f : A → List B) (l : List A) (z : A) where
  -- one number more
  pub each_more : (k : ℕ) → k < length l → each f (take (k + 1) l) ≡ each f (take k l) ++ f (get_or l k z)
  unfolding each
  each_more k h =
      ap (λ (n : ℕ). each f (take n l)) (add-one k)
      ∙ ap (each f) (take-suc l k z h)
      ∙ each_append f (take k l) (get_or l k z ∷ [])
      ∙ ap (λ (r : List B). each f (take k l) ++ r) (append-nil (f (get_or l k z)))

  pub each-longer : (k : ℕ) → k < length l → length (each f (take (k + 1) l)) ≡ length (each f (take k l)) + length (f (get_or l k z))
  each-longer k h = ap length (each_more k h) ∙ length-append (each f (take k l)) (f (get_or l k z))

  -- those of n numbers have room for the next one
  pub each-room : (k n : ℕ) → k < n → n ≤ length l → length (each f (take k l)) + length (f (get_or l k z)) ≤ length (each f (take n l))
  each-room k n h g =
      let e : n ≡ (k + 1) + (n - (k + 1)) = omega arith in
      let s : each f (take n l) ≡ each f (take (k + 1) l) ++ each f (take (n - (k + 1)) (drop (k + 1) l)) =
      ap (λ (m : ℕ). each f (take m l)) e ∙ ap (each f) (take-add (k + 1) (n - (k + 1)) l) ∙ each_append f (take (k + 1) l) (take (n - (k + 1)) (drop (k + 1) l))
      in
      let t : length (each f (take n l)) ≡ length (each f (take (k + 1) l)) + length (each f (take (n - (k + 1)) (drop (k + 1) l))) =
      ap length s ∙ length-append (each f (take (k + 1) l)) (each f (take (n - (k + 1)) (drop (k + 1) l)))
      in
      omega (arith, each-longer k (omega arith))

-- ---- rows with the places of their pieces

module _ {A B : Type 0} (p q : A → List ℕ) (row : ℕ → ℕ → A → B) where
  pub placed-append : (a b : ℕ) (xs ys : List A)
      → placed p q row a b (xs ++ ys) ≡ placed p q row a b xs ++ placed p q row (a + length (each p xs)) (b + length (each q xs)) ys
  unfolding placed each
  placed-append a b [] ys = rw (add-zero a, add-zero b)
  placed-append a b (x ∷ xs) ys =
      let e : a + length (p x) + length (each p xs) ≡ a + length (p x ++ each p xs) = rw length-append (omega arith) in
      let f : b + length (q x) + length (each q xs) ≡ b + length (q x ++ each q xs) = rw length-append (omega arith) in
      ap (λ (r : List B). row a b x ∷ r)
      (placed-append (a + length (p x)) (b + length (q x)) xs ys
      ∙ ap (λ (k : ℕ). placed p q row (a + length (p x)) (b + length (q x)) xs ++ placed p q row k (b + length (q x) + length (each q xs)) ys) e
      ∙ ap (λ (k : ℕ). placed p q row (a + length (p x)) (b + length (q x)) xs ++ placed p q row (a + length (p x ++ each p xs)) k ys) f)

  -- of the numbers of a table, one more
  module _ (f : ℕ → A) (l : List ℕ) (a b : ℕ) where
    -- the row of the next number, whose pieces lie behind those of k numbers
    abbrev pub row_at : ℕ → B
    row_at k = row (a + length (each (λ j. p (f j)) (take k l))) (b + length (each (λ j. q (f j)) (take k l))) (f (get_or l k 0))

    pub placed-more : (k : ℕ) → k < length l → placed p q row a b (map f (take (k + 1) l)) ≡ placed p q row a b (map f (take k l)) ++ (row_at k ∷ [])
    unfolding placed
    placed-more k h =
        ap (λ (n : ℕ). placed p q row a b (map f (take n l))) (add-one k)
        ∙ ap (λ (js : List ℕ). placed p q row a b (map f js)) (take-suc l k 0 h)
        ∙ ap (placed p q row a b) (map-append f (take k l) (get_or l k 0 ∷ []))
        ∙ placed-append a b (map f (take k l)) (f (get_or l k 0) ∷ [])
        ∙ rw (each_map p f (take k l), each_map q f (take k l))

-- ---- the same of rows of w numbers, joined

module _ {A : Type 0} (p q : A → List ℕ) (row : ℕ → ℕ → A → List ℕ) where
  pub length-joined : (w : ℕ) → ((a b : ℕ) (x : A) → length (row a b x) ≡ w) → (a b : ℕ) (xs : List A) → length (joined (placed p q row a b xs)) ≡ length xs * w
  unfolding placed each
  length-joined w h a b [] = sym (zero-mul w)
  length-joined w h a b (x ∷ xs) =
      rw (length-append, h a b x, length-joined w h (a + length (p x)) (b + length (q x)) xs, suc-mul) (omega arith)

  module _ (f : ℕ → A) (l : List ℕ) (a b : ℕ) where
    pub joined-more : (k : ℕ) → k < length l
        → joined (placed p q row a b (map f (take (k + 1) l))) ≡ joined (placed p q row a b (map f (take k l))) ++ row_at p q row f l a b k
    unfolding each
    joined-more k h =
        ap joined (placed-more p q row f l a b k h)
        ∙ each_append (λ r. r) (placed p q row a b (map f (take k l))) (row_at p q row f l a b k ∷ [])
        ∙ ap (λ (r : List ℕ). joined (placed p q row a b (map f (take k l))) ++ r) (append-nil (row_at p q row f l a b k))

    pub length-rows : (w k : ℕ) → ((a b : ℕ) (x : A) → length (row a b x) ≡ w) → k ≤ length l → length (joined (placed p q row a b (map f (take k l)))) ≡ k * w
    length-rows w k h g =
        length-joined w h a b (map f (take k l)) ∙ ap (λ (n : ℕ). n * w) (length-map (take k l) f ∙ length-take-le k l g)

    -- the next row is stored at its place
    pub placed-sets : (w k : ℕ) (t : List ℕ) → ((a b : ℕ) (x : A) → length (row a b x) ≡ w) → k < length l → k * w + w ≤ length t
        → sets (joined (placed p q row a b (map f (take k l))) ++ drop (k * w) t) (k * w) (row_at p q row f l a b k)
        ≡ joined (placed p q row a b (map f (take (k + 1) l))) ++ drop ((k + 1) * w) t
    placed-sets w k t h g room =
        let e : (k + 1) * w ≡ k * w + w = rw (add-one, suc-mul) in
        row_put (joined (placed p q row a b (map f (take k l)))) (row_at p q row f l a b k) t (k * w) w (length-rows w k h (omega arith)) (h _ _ _) room
        ∙ rw (e, joined-more k g)
