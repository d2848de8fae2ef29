-- The walks over a table: what is to be tested from record i on.
use Rattle.std.specs.Prelude.{◌≡◌, Bool, true, false, ◌&&◌, ◌||◌, ℕ, ◌+◌, ◌<◌, ◌≤◌, ltb, drop}
use Rattle.std.proofs.Math.Path.{ap}
use Rattle.lists.specs.Tab.{tab}
use Rattle.lists.specs.Walk.{drop-tab-next, drop-tab-none}
use Rattle.model.specs.Deposit.{all}
use Rattle.deposit_rules.specs.Rules.{ruled, some_of}

module _ {A : Type 0} (f : ℕ → A) (n i : ℕ) where
  pub all_from : (p : A → Bool) → i < n → all p (drop i (tab f n)) ≡ (p (f i) && all p (drop (i + 1) (tab f n)))
  unfolding all
  all_from p h = ap (all p) (drop-tab-next f n i h)

  pub all_end : (p : A → Bool) → n ≤ i → all p (drop i (tab f n)) ≡ true
  unfolding all
  all_end p h = ap (all p) (drop-tab-none f n i h)

  pub ruled-from : (index : A → ℕ) (ok : A → Bool) (last : ℕ) → i < n
      → ruled index ok last (drop i (tab f n)) ≡ (ltb last (index (f i)) && (ok (f i) && ruled index ok (index (f i)) (drop (i + 1) (tab f n))))
  unfolding ruled
  ruled-from index ok last h = ap (ruled index ok last) (drop-tab-next f n i h)

  pub ruled-end : (index : A → ℕ) (ok : A → Bool) (last : ℕ) → n ≤ i → ruled index ok last (drop i (tab f n)) ≡ true
  unfolding ruled
  ruled-end index ok last h = ap (ruled index ok last) (drop-tab-none f n i h)

  pub some-from : (p : A → Bool) → i < n → some_of p (drop i (tab f n)) ≡ (p (f i) || some_of p (drop (i + 1) (tab f n)))
  unfolding some_of
  some-from p h = ap (some_of p) (drop-tab-next f n i h)

  pub some_end : (p : A → Bool) → n ≤ i → some_of p (drop i (tab f n)) ≡ false
  unfolding some_of
  some_end p h = ap (some_of p) (drop-tab-none f n i h)
