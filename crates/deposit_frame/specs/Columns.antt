-- The sum of a block by columns: rows of q bytes, one below the other.
use Rattle.std.specs.Prelude.{◌≡◌, refl, List, ℕ, zero, suc, ◌+◌, ◌*◌, ◌<◌, ◌≤◌, length, get_or, take, set}
use Rattle.std.proofs.Common.{sym, ap, subst, ◌∙◌, add-zero, add-suc, zero-mul, suc-mul, mul-zero, mul-add, add-mul, mul_assoc, mul_left_comm, add-one, arith, below_more, get_or-set_same, get_or-set_other}
use Rattle.model.specs.Deposit.{weigh}
use Rattle.deposit_frame.specs.declared.Column.{Column}
use Rattle.deposit_frame.specs.Checks.{weigh-more}

-- the sum of f over the numbers below n
unfoldable pub total : (ℕ → ℕ) → ℕ → ℕ
total f zero = 0
total f (suc n) = total f n + f n

abbrev pub plain : List ℕ → ℕ → ℕ
plain l i = get_or l i 0

abbrev pub weighed : List ℕ → ℕ → ℕ
weighed l i = (i + 1) * get_or l i 0

-- column i of n rows: the sum of its bytes, and that of each one times its row, counted from 0
unfoldable pub column_sum : List ℕ → ℕ → ℕ → ℕ → ℕ
column_sum b q zero i = 0
column_sum b q (suc n) i = column_sum b q n i + get_or b (n * q + i) 0

unfoldable pub column_moment : List ℕ → ℕ → ℕ → ℕ → ℕ
column_moment b q zero i = 0
column_moment b q (suc n) i = column_moment b q n i + n * get_or b (n * q + i) 0

-- what holds of each of the first n
abbrev pub Below : (ℕ → ℕ → Type 0) → List ℕ → ℕ → Type 0
Below P l n = (i : ℕ) → i < n → P i (get_or l i 0)

abbrev pub AtMost : ℕ → ℕ → ℕ → Type 0
AtMost m i v = v ≤ m

abbrev pub IsSum : List ℕ → ℕ → ℕ → ℕ → Type 0
IsSum b q i v = (v ≡ column_sum b q 9 i) × (v ≤ 2295)

abbrev pub IsMoment : List ℕ → ℕ → ℕ → ℕ → Type 0
IsMoment b q i v = (v ≡ column_moment b q 9 i) × (v ≤ 9180)

-- r is c with the bytes at i, i + q, i + 2q and i + 3q above it
abbrev pub Above : List ℕ → ℕ → ℕ → Column → Column → Type 0
Above b q i c r =
    (r.sum ≡ c.sum + get_or b (i + 3 * q) 0 + get_or b (i + 2 * q) 0 + get_or b (i + q) 0 + get_or b i 0)
    × (r.moment ≡ c.moment + 4 * c.sum + 4 * get_or b (i + 3 * q) 0 + 3 * get_or b (i + 2 * q) 0 + 2 * get_or b (i + q) 0 + get_or b i 0)
    × (get_or b (i + 3 * q) 0 < 256) × (get_or b (i + 2 * q) 0 < 256) × (get_or b (i + q) 0 < 256) × (get_or b i 0 < 256)

-- row 0 over the eight rows below it
pub nine : (b : List ℕ) (q j : ℕ) (low c : Column) (x : ℕ) → Above b q (j + 5 * q) (record { sum = 0; moment = 0 }) low → Above b q (j + q) low c
    → x ≡ get_or b j 0 → x < 256 → IsSum b q j (c.sum + x) × IsMoment b q j c.moment
unfolding column_sum column_moment
nine b q j low c x l h e small =
    let e0 : 0 * q + j ≡ j = omega arith in
    let e1 : 1 * q + j ≡ j + q = omega arith in
    let e2 : 2 * q + j ≡ j + q + q = omega arith in
    let e3 : 3 * q + j ≡ j + q + 2 * q = omega arith in
    let e4 : 4 * q + j ≡ j + q + 3 * q = omega arith in
    let e5 : 5 * q + j ≡ j + 5 * q = omega arith in
    let e6 : 6 * q + j ≡ j + 5 * q + q = omega arith in
    let e7 : 7 * q + j ≡ j + 5 * q + 2 * q = omega arith in
    let e8 : 8 * q + j ≡ j + 5 * q + 3 * q = omega arith in
    ((rw (e0, e1, e2, e3, e4, e5, e6, e7, e8) (omega arith), omega arith), (rw (e1, e2, e3, e4, e5, e6, e7, e8) (omega arith), omega arith))

-- one store of a loop that fills from the front
pub below_set : (P : ℕ → ℕ → Type 0) (l : List ℕ) (j v : ℕ) → j < length l → Below P l j → P j v → Below P (set l j v) (j + 1)
below_set P l j v h all here =
    below_more (λ i. P i (get_or (set l j v) i 0)) j (λ i lt. subst (P i) (sym (get_or-set_other l j i v 0 (omega arith))) (all i lt))
    (subst (P j) (sym (get_or-set_same l j v 0 h)) here)

total_ext : (f g : ℕ → ℕ) (n : ℕ) → ((i : ℕ) → i < n → f i ≡ g i) → total f n ≡ total g n
unfolding total
total_ext f g zero h = refl
total_ext f g (suc n) h = rw (total_ext f g n (λ i l. h i (omega arith)), h n (omega arith))

pub total-more : (f : ℕ → ℕ) (n : ℕ) → total f (n + 1) ≡ total f n + f n
unfolding total
total-more f n = rw add-one

total-add : (f g : ℕ → ℕ) (n : ℕ) → total f n + total g n ≡ total (λ i. f i + g i) n
unfolding total
total-add f g zero = refl
total-add f g (suc n) = omega (arith, total-add f g n)

total-scale : (q : ℕ) (f : ℕ → ℕ) (n : ℕ) → q * total f n ≡ total (λ i. q * f i) n
unfolding total
total-scale q f zero = mul-zero q
total-scale q f (suc n) = rw (mul-add, total-scale q f n)

total-split : (f : ℕ → ℕ) (a n : ℕ) → total f (a + n) ≡ total f a + total (λ i. f (a + i)) n
unfolding total
total-split f a zero = rw (add-zero, add-zero)
total-split f a (suc n) = rw add-suc (omega (arith, total-split f a n))

weigh-total : (b : List ℕ) (n : ℕ) → n ≤ length b → weigh 0 (take n b) ≡ total (weighed b) n
unfolding weigh total
weigh-total b zero h = refl
weigh-total b (suc n) h = rw (← add-one n, weigh-more b n (omega arith), weigh-total b n (omega arith))

-- a byte y more in column j, in row n
more : (j c y q m n : ℕ) → (j + 1) * c + q * m + (n * q + j + 1) * y ≡ (j + 1) * (c + y) + q * (m + n * y)
more j c y q m n =
    let e : q * (n * y) ≡ n * q * y = mul_left_comm q n y ∙ sym (mul_assoc n q y) in
    let s : n * q + j + 1 ≡ n * q + (j + 1) = omega arith in
    rw (s, add-mul (n * q) (j + 1) y, mul-add (j + 1) c y, mul-add q m (n * y), e) (omega arith)

total-none : (f : ℕ → ℕ) (q n : ℕ) → total f 0 ≡ total (λ j. (j + 1) * 0 + q * 0) n
unfolding total
total-none f q zero = refl
total-none f q (suc n) = omega (arith, total-none f q n)

by-columns : (b : List ℕ) (q n : ℕ) → total (weighed b) (n * q) ≡ total (λ j. (j + 1) * column_sum b q n j + q * column_moment b q n j) q
unfolding column_sum column_moment
by-columns b q zero = rw zero-mul (total-none (weighed b) q q)
by-columns b q (suc n) =
    rw (suc-mul, total-split (weighed b) (n * q) q, by-columns b q n, total-add)
    (total_ext _ _ q (λ j l. more j (column_sum b q n j) (get_or b (n * q + j) 0) q (column_moment b q n j) n))

pub rows-weigh : (b sums moments : List ℕ) (q : ℕ) → 9 * q ≤ length b → Below (IsSum b q) sums q → Below (IsMoment b q) moments q
    → total (weighed sums) q + q * total (plain moments) q ≡ weigh 0 (take (9 * q) b)
rows-weigh b sums moments q h s m =
    ap (λ (t : ℕ). total (weighed sums) q + t) (total-scale q (plain moments) q)
    ∙ total-add (weighed sums) (λ i. q * plain moments i) q
    ∙ total_ext _ _ q (λ i l. rw ((s i l).0, (m i l).0))
    ∙ sym (weigh-total b (9 * q) h ∙ by-columns b q 9)
