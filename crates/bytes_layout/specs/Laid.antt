-- Runs of bytes laid one behind the other: each where what is behind those before it is lent, and comes back.
use Rattle.std.specs.Prelude.{◌≡◌, List, [], ◌++◌, ℕ, ◌+◌, ◌-◌, ◌<◌, ◌≤◌, length, get_or, take, drop}
use Rattle.std.proofs.Common.{sym, ap, ◌∙◌, arith, add-one, le_refl, append_assoc, append-nil, length-append, length-drop, drop_of_length-le, take_all, take_at, drop_at, drop-drop, drop-cons}
use Rattle.model.specs.Bytes.{each}

-- l lies at the front of t and reaches to o; behind it there is room for r
pub record Laid (t l r : List ℕ) (o : ℕ) (out : List ℕ) : Type 0 where
  pub reach : o ≡ length l
  pub room : o + length r ≤ length t
  pub held : out ≡ l ++ drop o t

module _ {t l : List ℕ} (x r : List ℕ) {o : ℕ} {out : List ℕ} (p : Laid t l (x ++ r) o out) where
  room-next : o + (length x + length r) ≤ length t
  room-next = rw length-append at p.room

  laid-length : length out ≡ length t
  laid-length = let e = p.reach in let h = room-next in ap length p.held ∙ rw (length-append, length-drop) (omega arith)

  lent : take (length out - o) (drop o out) ≡ drop o out
  lent = take_all (length out - o) (drop o out) (rw length-drop (le_refl (length out - o)))

  -- there is room for x in what is lent
  pub laid-room : length x ≤ length (take (length out - o) (drop o out))
  laid-room = rw (lent, length-drop, laid-length) (omega (arith, room-next))

  -- which comes back with x at its front
  pub laid-more : {n : ℕ} {ys : List ℕ} → n ≡ length x → ys ≡ x ++ drop n (take (length out - o) (drop o out)) → Laid t (l ++ x) r (o + n) (take o out ++ (ys ++ drop (length out - o) (drop o out)))
  laid-more {n} {ys} e f =
      let front : take o out ≡ l = ap (take o) p.held ∙ take_at l (drop o t) o (sym p.reach) in
      let rest : drop o out ≡ drop o t = ap (drop o) p.held ∙ drop_at l (drop o t) o (sym p.reach) in
      let none : drop (length out - o) (drop o out) ≡ [] = drop_of_length-le (drop o out) (rw length-drop (le_refl (length out - o))) in
      record {
        reach = (λ i. p.reach i + e i) ∙ sym (length-append l x);
        room = omega (arith, room-next, e);
        held = rw (none, append-nil, f, lent, front, rest, drop-drop) (sym (append_assoc l x (drop (o + n) t)));
      }

-- all is laid
pub laid-all : {t l : List ℕ} {o : ℕ} {out : List ℕ} → Laid t l [] o out → (x : List ℕ) → l ≡ x → out ≡ x ++ drop (length x) t
laid-all {t} {l} {o} {out} p x e = p.held ∙ ap (λ (n : ℕ). l ++ drop n t) p.reach ∙ ap (λ (y : List ℕ). y ++ drop (length y) t) e

-- of the numbers of a table, what those from number k on have
pub each-next : (f : ℕ → List ℕ) (order : List ℕ) (k : ℕ) → k < length order → each f (drop k order) ≡ f (get_or order k 0) ++ each f (drop (k + 1) order)
unfolding each
each-next f order k h = ap (each f) (drop-cons order k 0 h) ∙ rw (add-one k)
