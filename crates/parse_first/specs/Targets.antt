-- Relocations without a symbol, by number: from each number the nearest one, so that a section's range is told by one look.
use Rattle.std.specs.Prelude.{◌≡◌, Bool, ◌||◌, ◌&&◌, List, [], ◌∷◌, ◌++◌, ltb, length, get_or, take, drop, set, None, Some}
use Rattle.std.proofs.Math.Path.{refl, ap}
use Rattle.std.proofs.Common.{sym, ◌∙◌, append_assoc, not-suc-le-zero, le_of_suc-le-suc, lt-ltb, le-ltb, length-append, take-append-drop, take-suc, length-take-le}
use Rattle.std.proofs.Math.Bool.{true, false, cond, not}
use Prim.Native.Nat.{ℕ, zero, suc, ◌+◌, ◌-◌, ◌<◌, ◌≤◌}
use native.Mathlib.Omega.{arith}
use Rattle.std.proofs.Math.ListN.{get_or-append}
use Rattle.std.proofs.lemmas.List.{set_at}
use Rattle.lists.specs.Tab.{tab, tab-none, tab-ext, length-tab, get_or-tab}
use Rattle.model.specs.declared.Extent.{Extent}
use Rattle.object_view.specs.declared.View.{View}
use Rattle.object_view.specs.NoIndex.{is_none}
use Rattle.model.specs.declared.SectionRecord.{SectionRecord}
use Rattle.model.specs.Bytes.{is_some}
use Rattle.model.specs.Refusals.{untargeted}
use Rattle.model.specs.Deposit.{reloc_of}
use Rattle.records.specs.View.{relocation_at}
use Rattle.object.specs.View.{reloc_in, section_from}

-- ---- the nearest number that passes

module _ (p : ℕ → Bool) where
  -- among n numbers from k on, else their end
  unfoldable pub nearest_in : ℕ → ℕ → ℕ
  nearest_in k zero = k
  nearest_in k (suc n) = cond (p k) k (nearest_in (suc k) n)

  nearest-le : (k n : ℕ) → k ≤ nearest_in k n
  unfolding nearest_in
  nearest-le k zero = omega arith
  nearest-le k (suc n) = go (p k) (nearest-le (suc k) n)
    where
      go : (b : Bool) → suc k ≤ nearest_in (suc k) n → k ≤ cond b k (nearest_in (suc k) n)
      go true h = omega arith
      go false h = omega arith

  -- among the numbers from k to r
  abbrev nearest : ℕ → ℕ → ℕ
  nearest r k = nearest_in k (r - k)

  nearest-end : (r : ℕ) → nearest r r ≡ r
  unfolding nearest_in
  nearest-end r = let e : r - r ≡ 0 = omega arith in rw e

  nearest-before : (r k : ℕ) → 0 < k → k ≤ r → nearest r (k - 1) ≡ cond (p (k - 1)) (k - 1) (nearest r k)
  unfolding nearest_in
  nearest-before r k g l =
      let e : r - (k - 1) ≡ suc (r - k) = omega arith in
      let f : suc (k - 1) ≡ k = omega arith in
      ap (nearest_in (k - 1)) e ∙ ap (λ m. cond (p (k - 1)) (k - 1) (nearest_in m (r - k))) f

-- whether one of n numbers from k on passes
any_from : (ℕ → Bool) → ℕ → ℕ → Bool
any_from p k zero = false
any_from p k (suc n) = p k || any_from p (suc k) n

-- told by the nearest one of as many or more
any-nearest : (p : ℕ → Bool) (k n m : ℕ) → n ≤ m → any_from p k n ≡ ltb (nearest_in p k m) (k + n)
unfolding nearest_in any_from
any-nearest p k zero m h = sym (le-ltb (nearest_in p k m) (k + zero) (omega (arith, nearest-le p k m)))
any-nearest p k (suc n) zero h = absurd (not-suc-le-zero h)
any-nearest p k (suc n) (suc m) h = go (p k) (any-nearest p (suc k) n m (le_of_suc-le-suc h))
  where
    go : (b : Bool) → any_from p (suc k) n ≡ ltb (nearest_in p (suc k) m) (suc k + n)
        → (b || any_from p (suc k) n) ≡ ltb (cond b k (nearest_in p (suc k) m)) (k + suc n)
    go true r = sym (lt-ltb k (k + suc n) (omega arith))
    go false r = let e : suc k + n ≡ k + suc n = omega arith in r ∙ ap (ltb (nearest_in p (suc k) m)) e

-- ---- lists by number, from the front

module _ {A : Type 0} where
  pub tab-front : (f : ℕ → A) (n : ℕ) → tab f (suc n) ≡ f 0 ∷ tab (λ j. f (suc j)) n
  unfolding tab
  tab-front f zero = refl
  tab-front f (suc n) = ap (λ l. l ++ (f (suc n) ∷ [])) (tab-front f n)

  -- those from k on
  pub tab-from : (f : ℕ → A) (k n : ℕ) → tab (λ j. f (k + j)) (suc n) ≡ f k ∷ tab (λ j. f (suc k + j)) n
  tab-from f k n =
      let e : k + 0 ≡ k = omega arith in
      tab-front (λ j. f (k + j)) n
      ∙ rw e
      (ap (λ l. f k ∷ l) (tab-ext (λ j. f (k + suc j)) (λ j. f (suc k + j)) n (λ j l. ap f (omega arith))))

  -- a table whose first n are filled from k on
  abbrev pub filled_from : (ℕ → A) → ℕ → ℕ → List A → List A
  filled_from f k n t = take k t ++ (tab (λ j. f (k + j)) (n - k) ++ drop n t)

  pub filled_none : (f : ℕ → A) (n : ℕ) (t : List A) → t ≡ filled_from f n n t
  filled_none f n t =
      let e : n - n ≡ 0 = omega arith in
      let z : tab (λ j. f (n + j)) (n - n) ≡ [] = ap (tab (λ j. f (n + j))) e ∙ tab-none (λ j. f (n + j)) in
      rw z (sym (take-append-drop n t))

  pub filled-all : (f : ℕ → A) (n : ℕ) (t : List A) → filled_from f 0 n t ≡ tab f n ++ drop n t
  filled-all f n t =
      let e : n - 0 ≡ n = omega arith in
      rw e (ap (λ l. l ++ drop n t) (tab-ext (λ j. f (0 + j)) f n (λ j l. ap f (omega arith))))

  -- one store of a loop from the end
  pub filled-before : (f : ℕ → A) (k n : ℕ) (t : List A) → 0 < k → k ≤ n → n ≤ length t
      → set (filled_from f k n t) (k - 1) (f (k - 1)) ≡ filled_from f (k - 1) n t
  filled-before f zero n t p h g = absurd (not-suc-le-zero p)
  filled-before f (suc k) n t p h g =
      let r : List A = tab (λ j. f (suc k + j)) (n - suc k) ++ drop n t in
      let e : n - k ≡ suc (n - suc k) = omega arith in
      let q : suc k - 1 ≡ k = omega arith in
      rw q
      (ap (λ l. set (l ++ r) k (f k)) (take-suc t k (f k) (omega arith))
      ∙ ap (λ l. set l k (f k)) (append_assoc (take k t) (get_or t k (f k) ∷ []) r)
      ∙ set_at (take k t) (get_or t k (f k)) r (f k) k (length-take-le k t (omega arith))
      ∙ ap (λ l. take k t ++ (l ++ drop n t)) (sym (tab-from f k (n - suc k)) ∙ ap (tab (λ j. f (k + j))) (sym e)))

-- ---- relocations

module _ (d t : List ℕ) (v : View) where
  -- whether relocation k has no symbol as target
  unfoldable pub no_target : ℕ → Bool
  no_target k = not (is_some (reloc_in d t v k).symbol)

  -- the nearest relocation from k on that has no symbol as target, else their number
  unfoldable pub next_untargeted : ℕ → ℕ
  next_untargeted k = nearest no_target v.relocations k

  -- what `next` holds for each relocation
  pub record NextOf (next : List ℕ) : Type 0 where
    pub enough : v.relocations ≤ length next
    pub holds : (k : ℕ) → k < v.relocations → get_or next k 0 ≡ next_untargeted k

  -- as a loop from the end makes it
  pub next_of : (next : List ℕ) → v.relocations ≤ length next → NextOf (tab next_untargeted v.relocations ++ drop v.relocations next)
  next_of next g = record {
    enough = rw (length-append, length-tab) (omega arith);
    holds = λ k l.
        let q : k < length (tab next_untargeted v.relocations) = rw length-tab l in rw get_or-append (get_or-tab next_untargeted v.relocations k 0 l);
  }

  -- told by its record: 'u64 offset, u32 symbol (0xFFFFFFFF: target is no symbol)'
  no_target_lem : (k : ℕ) → no_target k ≡ is_none (relocation_at d t v k).symbol.0
  unfolding no_target reloc_in reloc_of
  no_target_lem k = go (is_none (relocation_at d t v k).symbol.0)
    where
      go : (b : Bool) → not (is_some (cond b None (Some (relocation_at d t v k).symbol))) ≡ b
      go true = refl
      go false = refl

  -- at the end, and one relocation before it
  pub next-end : next_untargeted v.relocations ≡ v.relocations
  unfolding next_untargeted
  next-end = nearest-end no_target v.relocations

  pub next-before : (k : ℕ) → 0 < k → k ≤ v.relocations
      → next_untargeted (k - 1) ≡ cond (is_none (relocation_at d t v (k - 1)).symbol.0) (k - 1) (next_untargeted k)
  unfolding next_untargeted
  next-before k g l = nearest-before no_target v.relocations k g l ∙ ap (λ b. cond b (k - 1) (nearest no_target v.relocations k)) (no_target_lem (k - 1))

  -- ---- number 4 of a range

  range-any : (k n : ℕ) → untargeted (tab (λ j. reloc_in d t v (k + j)) n) ≡ any_from no_target k n
  unfolding untargeted tab any_from no_target
  range-any k zero = refl
  range-any k (suc n) =
      ap untargeted (tab-from (reloc_in d t v) k n) ∙ ap (λ b. not (is_some (reloc_in d t v k).symbol) || b) (range-any (suc k) n)

  -- it has an untargeted relocation just where the next one from its start on lies below its end
  pub range-untargeted : (k n : ℕ) → k + n ≤ v.relocations → untargeted (tab (λ j. reloc_in d t v (k + j)) n) ≡ ltb (next_untargeted k) (k + n)
  unfolding next_untargeted
  range-untargeted k n l = range-any k n ∙ any-nearest no_target k n (v.relocations - k) (omega arith)

-- what `untargeted` answers of a range: whether the number that stands at its start lies below its end
unfoldable pub reaches : List ℕ → Extent → Bool
reaches next e = ltb 0 e.length && ltb (get_or next e.at 0) (e.at + e.length)

pub reaches-untargeted : (d t : List ℕ) (v : View) (next : List ℕ) (s : SectionRecord) → NextOf d t v next
    → s.relocations.at + s.relocations.length ≤ v.relocations → reaches next s.relocations ≡ untargeted (section_from d t v s).relocs
unfolding reaches section_from untargeted tab
reaches-untargeted d t v next s h l = go s.relocations.at s.relocations.length l
  where
    go : (k n : ℕ) → k + n ≤ v.relocations → (ltb 0 n && ltb (get_or next k 0) (k + n)) ≡ untargeted (tab (λ j. reloc_in d t v (k + j)) n)
    go k zero l = refl
    go k (suc n) l = rw (lt-ltb 0 (suc n) (omega arith), h.holds k (omega arith)) (sym (range-untargeted d t v k (suc n) l))
