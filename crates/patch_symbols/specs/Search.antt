-- Where a word stands among numbers sorted by their keys, and which of them have it as key: those from there on, next to each other.
use Rattle.std.specs.Prelude.{◌≡◌, Bool, not, ◌&&◌}
use Rattle.std.proofs.Math.Path.{refl, ap}
use Rattle.std.proofs.Common.{sym, ◌∙◌, ⊎_elim, not-suc-le-zero, le_of_suc-le-suc, eq-or-lt_of_le, add-one, drop_of_length-le}
use Rattle.std.proofs.Math.Bool.{true, false}
use mathlib.Core.List.{List, [], ◌∷◌}
use Prim.Native.Nat.{ℕ, zero, suc, ◌+◌, ◌<◌, ◌≤◌, min}
use native.Mathlib.Omega.{arith}
use borrow.Author.Tests.{not-true, ltb-true, ltb-false, eqb-true, eqb-false}
use Rattle.std.proofs.Math.Dec.{eqb, ltb}
use Rattle.std.proofs.Math.ListN.{length, get_or, drop}
use Rattle.std.proofs.Math.Seq.{drop-cons}
use Rattle.lists.specs.Tests.{true-not-false, both_true}
use Rattle.object_view.specs.declared.View.{View}
use Rattle.model.specs.declared.Extent.{Extent}
use Rattle.model.specs.Bytes.{same, before, keep}
use Rattle.std.specs.Ordering.{is_lt, is_eq}
use Rattle.orders.specs.Compare.{ordering, by_tests}
use Rattle.orders.specs.Keys.{same-is, before-irrefl, before-only, before-trans, after_is, same-flip}
use Rattle.orders.specs.Sort.{Order, by_key, key-order, sorted, Ordered, sorted-ordered}
use Rattle.stream.specs.Stream.{length-bytes}
use Rattle.records.specs.View.{gap_of, name_in, symbol_at}
use Rattle.catalogue_laws.specs.Numbers.{up_to, keep-sorted, keep-ext}
use Rattle.object.specs.View.{symbol_from}
use Rattle.record_keys.specs.declared.By.{By}
use Rattle.record_keys.specs.Keys.{cut_to, key_of}
use Rattle.patch_symbols.specs.declared.Bearer.{Bearer}
use Rattle.patch_symbols.specs.Bearers.{bearer_of, bearers_in}

-- ---- an answer of a comparison, as a test

pub less_before : (a b : List ℕ) → is_lt (ordering a b) ≡ before a b
unfolding ordering
less_before a b = go (same a b) (before a b) refl refl
  where
    go : (s t : Bool) → same a b ≡ s → before a b ≡ t → is_lt (by_tests s t) ≡ t
    go true true p q = true-not-false (sym q ∙ ap (before a) (sym (same-is a b p)) ∙ before-irrefl a)
    go true false p q = refl
    go false true p q = refl
    go false false p q = refl

pub equal_same : (a b : List ℕ) → is_eq (ordering a b) ≡ same b a
unfolding ordering
equal_same a b = go (same a b) (before a b) ∙ same-flip a b
  where
    go : (s t : Bool) → is_eq (by_tests s t) ≡ s
    go true t = refl
    go false true = refl
    go false false = refl

-- ---- the order of keys

-- c is not below b, so what is below b is below c, and what c is below b is below
below_up : (a b c : List ℕ) → before a b ≡ true → before c b ≡ false → before a c ≡ true
below_up a b c p q = go (same c b) refl
  where
    go : (s : Bool) → same c b ≡ s → before a c ≡ true
    go true e = ap (before a) (same-is c b e) ∙ p
    go false e = before-trans a b c p (after_is c b q e)

below-down : (a b c : List ℕ) → before c a ≡ true → before c b ≡ false → before b a ≡ true
below-down a b c p q = go (same c b) refl
  where
    go : (s : Bool) → same c b ≡ s → before b a ≡ true
    go true e = ap (λ k. before k a) (sym (same-is c b e)) ∙ p
    go false e = before-trans b c a (after_is c b q e) p

module _ (le : ℕ → ℕ → Bool) (o : Order le) where
  head_first : (x : ℕ) (l : List ℕ) → Ordered le (x ∷ l) → (j : ℕ) → j < length l → le x (get_or l j 0) ≡ true
  unfolding Ordered
  head_first x [] h j k = absurd (not-suc-le-zero k)
  head_first x (y ∷ l) h zero k = h.0
  head_first x (y ∷ l) h (suc j) k = o.trans x y (get_or l j 0) h.0 (head_first y l h.1 j (le_of_suc-le-suc k))

  tail-ordered : (x : ℕ) (l : List ℕ) → Ordered le (x ∷ l) → Ordered le l
  unfolding Ordered
  tail-ordered x [] h = tt
  tail-ordered x (y ∷ l) h = h.1

  ordered_at : (l : List ℕ) → Ordered le l → (i j : ℕ) → i < j → j < length l → le (get_or l i 0) (get_or l j 0) ≡ true
  ordered_at [] h i j k m = absurd (not-suc-le-zero m)
  ordered_at (x ∷ l) h i zero k m = absurd (not-suc-le-zero k)
  ordered_at (x ∷ l) h zero (suc j) k m = head_first x l h j (le_of_suc-le-suc m)
  ordered_at (x ∷ l) h (suc i) (suc j) k m = ordered_at l (tail-ordered x l h) i j (le_of_suc-le-suc k) (le_of_suc-le-suc m)

  ordered-drop : (i : ℕ) (l : List ℕ) → Ordered le l → Ordered le (drop i l)
  unfolding Ordered
  ordered-drop zero l h = h
  ordered-drop (suc i) [] h = tt
  ordered-drop (suc i) (x ∷ l) h = ordered-drop i l (tail-ordered x l h)

module _ (key : ℕ → List ℕ) (word l : List ℕ) where
  abbrev pub key_at : ℕ → List ℕ
  key_at i = key (get_or l i 0)

  -- r keys are before the word, and no other
  pub record FirstNotBefore (r : ℕ) : Type 0 where
    pub within : r ≤ length l
    pub below : (i : ℕ) → i < r → before (key_at i) word ≡ true
    pub above : (i : ℕ) → r ≤ i → i < length l → before (key_at i) word ≡ false

  -- the number at i has the word as key
  abbrev pub has_at : ℕ → Bool
  has_at i = ltb i (length l) && same word (key_at i)

  module _ (o : Ordered (by_key key) l) where
    rises : (i j : ℕ) → i < j → j < length l → before (key_at j) (key_at i) ≡ false
    rises i j k m = not-true (before (key_at j) (key_at i)) (ordered_at (by_key key) (key-order key) l o i j k m)

    -- what holds of the key at m holds of those in front of it, or of those behind it
    pub all-below : (m : ℕ) → m < length l → before (key_at m) word ≡ true → (i : ℕ) → i < m + 1 → before (key_at i) word ≡ true
    all-below m k q i n =
        let e : i ≤ m = omega arith in ⊎_elim (λ e. rw e q) (λ t. below-down word (key_at i) (key_at m) q (rises i m t k)) (eq-or-lt_of_le e)

    pub all_above : (m : ℕ) → before (key_at m) word ≡ false → (i : ℕ) → m ≤ i → i < length l → before (key_at i) word ≡ false
    all_above m q i n k = ⊎_elim (λ e. rw (← e) q) (λ t. go t (before (key_at i) word) refl) (eq-or-lt_of_le n)
      where
        go : m < i → (b : Bool) → before (key_at i) word ≡ b → before (key_at i) word ≡ false
        go t true e = true-not-false (sym (below-down word (key_at m) (key_at i) e (rises m i t k)) ∙ q)
        go t false e = e

-- ---- those that have the word as key

module _ (key : ℕ → List ℕ) (word : List ℕ) where
  abbrev has : ℕ → Bool
  has j = same word (key j)

  before-out : (x : ℕ) → before (key x) word ≡ true → has x ≡ false
  before-out x h = (before-only (key x) word h).1

  -- none in front
  none-front : (r : ℕ) (l : List ℕ) → ((i : ℕ) → i < r → before (key_at key word l i) word ≡ true) → r ≤ length l → keep has l ≡ keep has (drop r l)
  unfolding keep
  none-front zero l h k = refl
  none-front (suc r) [] h k = absurd (not-suc-le-zero k)
  none-front (suc r) (x ∷ l) h k = rw (before-out x (h 0 (omega arith))) (none-front r l (λ i m. h (suc i) (omega arith)) (le_of_suc-le-suc k))

  -- none behind a key that the word is before
  none-behind : (x : ℕ) (l : List ℕ) → Ordered (by_key key) (x ∷ l) → before word (key x) ≡ true → keep has (x ∷ l) ≡ []
  unfolding keep Ordered
  none-behind x [] o h = rw (before-only word (key x) h).0
  none-behind x (y ∷ l) o h =
      rw (before-only word (key x) h).0 (none-behind y l o.1 (below_up word (key x) (key y) h (not-true (before (key y) (key x)) o.0)))

  module _ (l : List ℕ) (o : Ordered (by_key key) l) where
    -- from i on: none, where number i has another key that is not before the word
    none_from : (i : ℕ) → (i < length l → before (key_at key word l i) word ≡ false) → has_at key word l i ≡ false → keep has (drop i l) ≡ []
    unfolding keep
    none_from i h e = go (ltb i (length l)) refl e
      where
        go : (b : Bool) → ltb i (length l) ≡ b → (b && same word (key_at key word l i)) ≡ false → keep has (drop i l) ≡ []
        go false p q = rw (drop_of_length-le l (ltb-false i (length l) p))
        go true p q =
            let m : i < length l = ltb-true i (length l) p in
            let c : drop i l ≡ get_or l i 0 ∷ drop (suc i) l = drop-cons l i 0 m in
            let s : Ordered (by_key key) (get_or l i 0 ∷ drop (suc i) l) = rw c at (ordered-drop (by_key key) (key-order key) i l o) in
            let n : same (key_at key word l i) word ≡ false = same-flip (key_at key word l i) word ∙ q in
            rw c (none-behind (get_or l i 0) (drop (suc i) l) s (after_is (key_at key word l i) word (h m) n))

    one_from : (i : ℕ) → has_at key word l i ≡ true → keep has (drop i l) ≡ get_or l i 0 ∷ keep has (drop (i + 1) l)
    unfolding keep
    one_from i e =
        let (p, q) = both_true (ltb i (length l)) (same word (key_at key word l i)) e in
        rw (drop-cons l i 0 (ltb-true i (length l) p), q, add-one)

    module _ (r : ℕ) (f : FirstNotBefore key word l r) where
      front : keep has l ≡ keep has (drop r l)
      front = none-front r l f.below f.within

      pub nobody : has_at key word l r ≡ false → bearer_of (keep has l) ≡ Bearer.Nothing
      nobody e = rw (front, none_from r (λ m. f.above r (omega arith) m) e)

      pub one : has_at key word l r ≡ true → has_at key word l (r + 1) ≡ false → bearer_of (keep has l) ≡ Bearer.One (get_or l r 0)
      one e g = rw (front, one_from r e, none_from (r + 1) (λ m. f.above (r + 1) (omega arith) m) g)

      pub several : has_at key word l r ≡ true → has_at key word l (r + 1) ≡ true → bearer_of (keep has l) ≡ Bearer.Several
      several e g = rw (front, one_from r e, one_from (r + 1) g)

-- ---- symbols sorted by the lengths of their names, then by their first bytes

-- a word behind its length
abbrev pub length_first : List ℕ → List ℕ
length_first word = length word ∷ word

module _ (d t : List ℕ) (v : View) where
  abbrev name_at : ℕ → Extent
  name_at j = (symbol_at d t v j).name

  -- a name behind its length
  abbrev pub length_and_name : ℕ → List ℕ
  length_and_name j = (name_at j).length ∷ name_in d v (name_at j)

  -- n bytes of it
  abbrev cut_name : ℕ → ℕ → List ℕ
  cut_name n = key_of (By.SymbolNameLength n) d t v

  -- all symbols, sorted by n bytes
  unfoldable pub by_name : ℕ → List ℕ
  by_name n = sorted (by_key (cut_name n)) (up_to v.symbols)

  -- all symbols, sorted by enough bytes to find a word of so many; a longer one than any name needs none
  pub record Searchable (order : List ℕ) (size : ℕ) : Type 0 where
    pub bytes : ℕ
    pub enough : size ≤ 65535 → size ≤ bytes
    pub is : order ≡ by_name bytes

  by_name-ordered : (n : ℕ) → Ordered (by_key (cut_name n)) (by_name n)
  unfolding by_name
  by_name-ordered n = sorted-ordered (by_key (cut_name n)) (key-order (cut_name n)) (up_to v.symbols)

  -- whether a symbol bears a word is seen by its length and by all of its bytes
  bears-key : (word : List ℕ) (j : ℕ) → same (length_first word) (length_and_name j) ≡ same word (name_in d v (name_at j))
  unfolding same
  bears-key word j = go (eqb (length word) (name_at j).length) (same word (name_in d v (name_at j))) refl refl
    where
      go : (a b : Bool) → eqb (length word) (name_at j).length ≡ a → same word (name_in d v (name_at j)) ≡ b → (a && b) ≡ b
      go true b p q = refl
      go false false p q = refl
      go false true p q =
          absurd (eqb-false (length word) (name_at j).length p (ap length (same-is word (name_in d v (name_at j)) q) ∙ length-bytes d (gap_of v) (v.at.names + (name_at j).at) (name_at j).length))

  module _ (word : List ℕ) (n : ℕ) (enough : length word ≤ n) (j : ℕ) where
    -- as many bytes as the word has are all of a name of its length
    cut-none : (name_at j).length ≡ length word → cut_name n j ≡ length_and_name j
    unfolding key_of cut_to
    cut-none e = let m : min n (name_at j).length ≡ (name_at j).length = omega arith in rw m

    before-cut : before (cut_name n j) (length_first word) ≡ before (length_and_name j) (length_first word)
    unfolding key_of before
    before-cut = go (eqb (name_at j).length (length word)) refl
      where
        go : (b : Bool) → eqb (name_at j).length (length word) ≡ b → before (cut_name n j) (length_first word) ≡ before (length_and_name j) (length_first word)
        go true e = ap (λ (k : List ℕ). before k (length_first word)) (cut-none (eqb-true (name_at j).length (length word) e))
        go false e = rw e

    same-cut : same (length_first word) (cut_name n j) ≡ same (length_first word) (length_and_name j)
    unfolding key_of same
    same-cut = go (eqb (length word) (name_at j).length) refl
      where
        go : (b : Bool) → eqb (length word) (name_at j).length ≡ b → same (length_first word) (cut_name n j) ≡ same (length_first word) (length_and_name j)
        go true e = ap (same (length_first word)) (cut-none (sym (eqb-true (length word) (name_at j).length e)))
        go false e = rw e

  alike : (word : List ℕ) (n i j : ℕ) → same (length_first word) (cut_name n i) ≡ true → same (length_first word) (cut_name n j) ≡ true → by_key (cut_name n) i j ≡ true
  alike word n i j p q =
      let e : cut_name n j ≡ cut_name n i = sym (same-is (length_first word) (cut_name n j) q) ∙ same-is (length_first word) (cut_name n i) p in
      ap not (ap (λ k. before k (cut_name n i)) e ∙ before-irrefl (cut_name n i))

  bearers-sorted : (word : List ℕ) (n : ℕ) → length word ≤ n → keep (λ j. same (length_first word) (cut_name n j)) (by_name n) ≡ bearers_in d t v word
  unfolding by_name bearers_in symbol_from
  bearers-sorted word n enough =
      keep-sorted (by_key (cut_name n)) (λ j. same (length_first word) (cut_name n j)) (alike word n) (up_to v.symbols)
      ∙ keep-ext (λ j. same (length_first word) (cut_name n j)) (λ j. same word (name_in d v (name_at j))) (up_to v.symbols) (λ j. same-cut word n enough j ∙ bears-key word j)

  module _ (word order : List ℕ) (s : Searchable order (length word)) (short : length word ≤ 65535) where
    abbrev key : ℕ → List ℕ
    key = cut_name s.bytes

    abbrev known : length word ≤ s.bytes
    known = s.enough short

    ordered : Ordered (by_key key) order
    ordered = rw s.is (by_name-ordered s.bytes)

    at_cut : (i : ℕ) → before (key_at key (length_first word) order i) (length_first word) ≡ before (key_at length_and_name (length_first word) order i) (length_first word)
    at_cut i = before-cut word s.bytes known (get_or order i 0)

    -- what holds of the name at m holds of those in front of it, or of those behind it
    pub names-below : (m : ℕ) → m < length order → before (key_at length_and_name (length_first word) order m) (length_first word) ≡ true
        → (i : ℕ) → i < m + 1 → before (key_at length_and_name (length_first word) order i) (length_first word) ≡ true
    names-below m k q i n = sym (at_cut i) ∙ all-below key (length_first word) order ordered m k (at_cut m ∙ q) i n

    pub names-above : (m : ℕ) → before (key_at length_and_name (length_first word) order m) (length_first word) ≡ false
        → (i : ℕ) → m ≤ i → i < length order → before (key_at length_and_name (length_first word) order i) (length_first word) ≡ false
    names-above m q i n k = sym (at_cut i) ∙ all_above key (length_first word) order ordered m (at_cut m ∙ q) i n k

    -- what a look at the first two that are not before the word tells
    module _ (r : ℕ) (f : FirstNotBefore length_and_name (length_first word) order r) where
      first-cut : FirstNotBefore key (length_first word) order r
      first-cut = record { within = f.within; below = λ i l. at_cut i ∙ f.below i l; above = λ i l m. at_cut i ∙ f.above i l m }

      has-cut : (i : ℕ) → has_at key (length_first word) order i ≡ has_at length_and_name (length_first word) order i
      has-cut i = ap (λ (b : Bool). ltb i (length order) && b) (same-cut word s.bytes known (get_or order i 0))

      kept : bearer_of (keep (λ j. same (length_first word) (key j)) order) ≡ bearer_of (bearers_in d t v word)
      kept = ap bearer_of (ap (keep (λ j. same (length_first word) (key j))) s.is ∙ bearers-sorted word s.bytes known)

      pub nobody-bears : has_at length_and_name (length_first word) order r ≡ false → Bearer.Nothing ≡ bearer_of (bearers_in d t v word)
      nobody-bears p = sym (nobody key (length_first word) order ordered r first-cut (has-cut r ∙ p)) ∙ kept

      pub one-bears : has_at length_and_name (length_first word) order r ≡ true → has_at length_and_name (length_first word) order (r + 1) ≡ false
          → Bearer.One (get_or order r 0) ≡ bearer_of (bearers_in d t v word)
      one-bears p q = sym (one key (length_first word) order ordered r first-cut (has-cut r ∙ p) (has-cut (r + 1) ∙ q)) ∙ kept

      pub several-bear : has_at length_and_name (length_first word) order r ≡ true → has_at length_and_name (length_first word) order (r + 1) ≡ true
          → Bearer.Several ≡ bearer_of (bearers_in d t v word)
      several-bear p q = sym (several key (length_first word) order ordered r first-cut (has-cut r ∙ p) (has-cut (r + 1) ∙ q)) ∙ kept
