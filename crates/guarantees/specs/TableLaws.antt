-- Laws of keys and of tables: the order of keys is strict and total, a table is sorted, and of one key it has the last entry.
use Rattle.std.specs.Prelude.{◌≡◌, ◌⊎◌, Bool, ℕ}
use Rattle.std.proofs.Math.Path.{refl, ap}
use Rattle.std.proofs.Common.{sym, ◌∙◌}
use Rattle.std.proofs.Math.Logic.{inl, inr, ⊎_elim}
use Rattle.std.proofs.Math.Bool.{true, false, cond}
use mathlib.Core.List.{List, [], ◌∷◌, ◌++◌}
use Rattle.model.specs.Bytes.{push, keep, same, before, ◌∈◌}
use Rattle.model.specs.Table.{put, table_of}
pub use Rattle.orders.specs.Keys.{same-is, same_refl, before-eq, before-second, before-trans, after_is, before-irrefl}
use Rattle.guarantees.specs.OptionsAndLists.{true-not-false}

-- ---- members

module _ {A : Type 0} where
  pub keep-∈ : (p : A → Bool) (z : A) (l : List A) → z ∈ keep p l → (z ∈ l) × (p z ≡ true)
  unfolding keep
  keep-∈ p z [] m = absurd m
  keep-∈ p z (x ∷ l) m = go (p x) refl m (keep-∈ p z l)
    where
      go : (b : Bool) → p x ≡ b → z ∈ push b x (keep p l) → (z ∈ keep p l → (z ∈ l) × (p z ≡ true)) → (z ∈ (x ∷ l)) × (p z ≡ true)
      go true e (inl q) r = (inl q, ap p q ∙ e)
      go true e (inr m) r = let (u, v) = r m in (inr u, v)
      go false e m r = let (u, v) = r m in (inr u, v)

  pub ∈-keep : (p : A → Bool) (z : A) (l : List A) → z ∈ l → p z ≡ true → z ∈ keep p l
  unfolding keep
  ∈-keep p z [] m e = m
  ∈-keep p z (x ∷ l) (inl q) e = let h : p x ≡ true = ap p (sym q) ∙ e in rw h (inl q)
  ∈-keep p z (x ∷ l) (inr m) e = go (p x) (∈-keep p z l m e)
    where
      go : (b : Bool) → z ∈ keep p l → z ∈ push b x (keep p l)
      go true r = inr r
      go false r = r

-- ---- tables

module _ {A : Type 0} (key : A → List ℕ) where
  -- what is put in, and what stood there
  pub put-∈ : (z x : A) (t : List A) → z ∈ put key x t → (z ≡ x) ⊎ (z ∈ t)
  unfolding put
  put-∈ z x [] m = m
  put-∈ z x (y ∷ t) m = go (before (key x) (key y)) (same (key x) (key y)) m (put-∈ z x t)
    where
      go : (b c : Bool) → z ∈ cond b (x ∷ y ∷ t) (cond c (y ∷ t) (y ∷ put key x t)) → (z ∈ put key x t → (z ≡ x) ⊎ (z ∈ t)) → (z ≡ x) ⊎ (z ∈ (y ∷ t))
      go true c m r = m
      go false true m r = inr m
      go false false (inl q) r = inr (inl q)
      go false false (inr m) r = ⊎_elim (λ q. inl q) (λ n. inr (inr n)) (r m)

  pub put_keeps : (z x : A) (t : List A) → z ∈ t → z ∈ put key x t
  unfolding put
  put_keeps z x [] m = absurd m
  put_keeps z x (y ∷ t) m = go (before (key x) (key y)) (same (key x) (key y)) m (put_keeps z x t)
    where
      go : (b c : Bool) → z ∈ (y ∷ t) → (z ∈ t → z ∈ put key x t) → z ∈ cond b (x ∷ y ∷ t) (cond c (y ∷ t) (y ∷ put key x t))
      go true c m r = inr m
      go false true m r = m
      go false false (inl q) r = inl q
      go false false (inr m) r = inr (r m)

  -- x stands in the table it was put into, unless one of its key stood there
  pub put_has : (x : A) (t : List A) → (x ∈ put key x t) ⊎ ((y : A) × (y ∈ t) × (key x ≡ key y))
  unfolding put
  put_has x [] = inl (inl refl)
  put_has x (y ∷ t) = go (before (key x) (key y)) (same (key x) (key y)) refl (put_has x t)
    where
      go : (b c : Bool) → same (key x) (key y) ≡ c → (x ∈ put key x t) ⊎ ((w : A) × (w ∈ t) × (key x ≡ key w))
          → (x ∈ cond b (x ∷ y ∷ t) (cond c (y ∷ t) (y ∷ put key x t))) ⊎ ((w : A) × (w ∈ (y ∷ t)) × (key x ≡ key w))
      go true c e r = inl (inl refl)
      go false true e r = inr (y, inl refl, same-is (key x) (key y) e)
      go false false e (inl m) = inl (inr m)
      go false false e (inr w) = inr (w.0, inr w.1, w.2)

  pub table-∈ : (z : A) (l : List A) → z ∈ table_of key l → z ∈ l
  unfolding table_of
  table-∈ z [] m = m
  table-∈ z (x ∷ l) m = ⊎_elim (λ q. inl q) (λ n. inr (table-∈ z l n)) (put-∈ z x (table_of key l) m)

  -- an entry whose key no other entry has is in the table
  pub ∈-table : (z : A) (l : List A) → z ∈ l → ((w : A) → w ∈ l → key z ≡ key w → w ≡ z) → z ∈ table_of key l
  unfolding table_of
  ∈-table z [] m h = m
  ∈-table z (x ∷ l) (inr m) h = put_keeps z x (table_of key l) (∈-table z l m (λ w n. h w (inr n)))
  ∈-table z (x ∷ l) (inl q) h = go (put_has x (table_of key l))
    where
      go : (x ∈ put key x (table_of key l)) ⊎ ((y : A) × (y ∈ table_of key l) × (key x ≡ key y)) → z ∈ put key x (table_of key l)
      go (inl m) = rw q m
      go (inr w) =
          let n : w.0 ≡ z = h w.0 (inr (table-∈ w.0 l w.1)) (ap key q ∙ w.2) in
          put_keeps z x (table_of key l) (rw n at w.1)

  -- ordered strictly by key
  abbrev pub First : A → List A → Type 0
  First x t = (y : A) → y ∈ t → before (key x) (key y) ≡ true

  abbrev pub Sorted : List A → Type 0
  Sorted [] = Unit {0}
  Sorted (x ∷ t) = First x t × Sorted t

  pub put_front : (x : A) (t : List A) → First x t → put key x t ≡ x ∷ t
  unfolding put
  put_front x [] h = refl
  put_front x (y ∷ t) h = rw (h y (inl refl))

  -- a table that is in order is as it was
  pub table-sorted : (l : List A) → Sorted l → table_of key l ≡ l
  unfolding table_of
  table-sorted [] s = refl
  table-sorted (x ∷ l) s = rw (table-sorted l s.1) (put_front x l s.0)

  put-sorted : (x : A) (t : List A) → Sorted t → Sorted (put key x t)
  unfolding put
  put-sorted x [] s = (λ y m. absurd m, tt)
  put-sorted x (y ∷ t) s = go (before (key x) (key y)) (same (key x) (key y)) refl refl (put-sorted x t s.1)
    where
      go : (b c : Bool) → before (key x) (key y) ≡ b → same (key x) (key y) ≡ c → Sorted (put key x t)
          → Sorted (cond b (x ∷ y ∷ t) (cond c (y ∷ t) (y ∷ put key x t)))
      go true c p q r = (λ z m. ⊎_elim (λ e. ap (λ w. before (key x) (key w)) e ∙ p) (λ n. before-trans (key x) (key y) (key z) p (s.0 z n)) m, s)
      go false true p q r = s
      go false false p q r =
          (λ z m. ⊎_elim (λ e. ap (λ w. before (key y) (key w)) e ∙ after_is (key x) (key y) p q) (λ n. s.0 z n) (put-∈ z x t m), r)

  pub sorted-table : (l : List A) → Sorted (table_of key l)
  unfolding table_of
  sorted-table [] = tt
  sorted-table (x ∷ l) = put-sorted x (table_of key l) (sorted-table l)

  -- a part of a table, by a test that looks at the key only
  module _ (p : A → Bool) (by_key : (x y : A) → key x ≡ key y → p x ≡ p y) where
    keep-put : (x : A) (t : List A) → Sorted t → keep p (put key x t) ≡ cond (p x) (put key x (keep p t)) (keep p t)
    unfolding put keep
    keep-put x [] s = go (p x)
      where
        go : (b : Bool) → push b x [] ≡ cond b (x ∷ []) []
        go true = refl
        go false = refl
    keep-put x (y ∷ t) s = go (before (key x) (key y)) (same (key x) (key y)) refl refl (keep-put x t s.1)
      where
        low : before (key x) (key y) ≡ true → First x (keep p (y ∷ t))
        low h z m =
            let n : z ∈ (y ∷ t) = (keep-∈ p z (y ∷ t) m).0 in
            ⊎_elim (λ e. ap (λ w. before (key x) (key w)) e ∙ h) (λ k. before-trans (key x) (key y) (key z) h (s.0 z k)) n

        front : (b : Bool) → put key x (push (p y) y (keep p t)) ≡ x ∷ push (p y) y (keep p t)
            → push b x (push (p y) y (keep p t)) ≡ cond b (put key x (push (p y) y (keep p t))) (push (p y) y (keep p t))
        front true e = sym e
        front false e = refl

        here : (b c : Bool) → p x ≡ b → p y ≡ c → before (key x) (key y) ≡ false → same (key x) (key y) ≡ true
            → push c y (keep p t) ≡ cond b (put key x (push c y (keep p t))) (push c y (keep p t))
        here false c u v g h = refl
        here true true u v g h = rw (g, h)
        here true false u v g h = true-not-false (sym u ∙ by_key x y (same-is (key x) (key y) h) ∙ v)

        past : (b c : Bool) → before (key x) (key y) ≡ false → same (key x) (key y) ≡ false
            → push c y (cond b (put key x (keep p t)) (keep p t)) ≡ cond b (put key x (push c y (keep p t))) (push c y (keep p t))
        past false c g h = refl
        past true true g h = rw (g, h)
        past true false g h = refl

        go : (b c : Bool) → before (key x) (key y) ≡ b → same (key x) (key y) ≡ c
            → keep p (put key x t) ≡ cond (p x) (put key x (keep p t)) (keep p t)
            → keep p (cond b (x ∷ y ∷ t) (cond c (y ∷ t) (y ∷ put key x t))) ≡ cond (p x) (put key x (push (p y) y (keep p t))) (push (p y) y (keep p t))
        go true c g h r = front (p x) (put_front x (push (p y) y (keep p t)) (low g))
        go false true g h r = here (p x) (p y) refl refl g h
        go false false g h r = ap (push (p y) y) r ∙ past (p x) (p y) g h

    pub keep-table : (l : List A) → keep p (table_of key l) ≡ table_of key (keep p l)
    unfolding table_of keep
    keep-table [] = refl
    keep-table (x ∷ l) = keep-put x (table_of key l) (sorted-table l) ∙ go (p x) (keep-table l)
      where
        go : (b : Bool) → keep p (table_of key l) ≡ table_of key (keep p l)
            → cond b (put key x (keep p (table_of key l))) (keep p (table_of key l)) ≡ table_of key (push b x (keep p l))
        go true e = ap (put key x) e
        go false e = e

  -- 'A later .. replaces the earlier': the last entry of its key is in the table
  pub last-∈-table : (z : A) (l r : List A) → ((w : A) → w ∈ r → key z ≡ key w → ⊥) → z ∈ table_of key (l ++ z ∷ r)
  unfolding table_of
  last-∈-table z [] r h = go (put_has z (table_of key r))
    where
      go : (z ∈ put key z (table_of key r)) ⊎ ((y : A) × (y ∈ table_of key r) × (key z ≡ key y)) → z ∈ put key z (table_of key r)
      go (inl m) = m
      go (inr w) = absurd (h w.0 (table-∈ w.0 r w.1) w.2)
  last-∈-table z (x ∷ l) r h = put_keeps z x (table_of key (l ++ z ∷ r)) (last-∈-table z l r h)

  -- and it is the only one of its key there
  pub one-of-key : (t : List A) (x y : A) → Sorted t → x ∈ t → y ∈ t → key x ≡ key y → x ≡ y
  one-of-key [] x y s m n e = absurd m
  one-of-key (z ∷ t) x y s (inl p) (inl q) e = p ∙ sym q
  one-of-key (z ∷ t) x y s (inl p) (inr q) e =
      true-not-false (sym (s.0 y q) ∙ ap (λ k. before k (key y)) (sym (ap key p) ∙ e) ∙ before-irrefl (key y))
  one-of-key (z ∷ t) x y s (inr p) (inl q) e =
      true-not-false (sym (s.0 x p) ∙ ap (λ k. before k (key x)) (sym (ap key q) ∙ sym e) ∙ before-irrefl (key x))
  one-of-key (z ∷ t) x y s (inr p) (inr q) e = one-of-key t x y s.1 p q e
