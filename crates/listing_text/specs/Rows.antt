-- The rows of a table, and the lines that they give one after the other.
use Rattle.std.specs.Prelude.{◌≡◌, refl, List, [], ◌∷◌, ◌++◌, ℕ, zero, suc, ◌+◌, ◌*◌, ◌<◌, ◌≤◌, length, take, drop}
use Rattle.std.proofs.Common.{sym, ap, ◌∙◌, append-nil, zero-mul, suc-mul, add-one, arith, drop-drop, length-drop}
use Rattle.std.proofs.Math.Nat.{mul-le-mul_right}
use Rattle.model.specs.Bytes.{each, records, part}
use Rattle.catalogue_laws.specs.Numbers.{each_append}
use Rattle.text.specs.Pushed.{pushed, then, same_text}

records-more : {A : Type 0} (f : List ℕ → A) (w k : ℕ) (s : List ℕ) → records f w (suc k) s ≡ records f w k s ++ (f (part s (k * w) w) ∷ [])
unfolding records
records-more f w zero s = rw zero-mul
records-more f w (suc k) s =
    let e : w + k * w ≡ suc k * w = rw suc-mul (omega arith) in
    ap (λ l. f (take w s) ∷ l) (records-more f w k (drop w s) ∙ rw (drop-drop (k * w) w s, e))

-- one line more
pub row_put : {A : Type 0} (line : A → List ℕ) (read : List ℕ → A) (n w k : ℕ) (s old : List ℕ) {u v : List ℕ}
    → u ≡ pushed n old (each line (records read w k s)) → v ≡ pushed n u (line (read (part s (k * w) w))) → v ≡ pushed n old (each line (records read w (k + 1) s))
unfolding each
row_put line read n w k s old a b =
    let m : each line (records read w k s) ++ line (read (part s (k * w) w)) ≡ each line (records read w (k + 1) s) =
    sym (rw (add-one, records-more read w k s, each_append line (records read w k s) (read (part s (k * w) w) ∷ []), append-nil))
    in
    same_text n old m (then n old (each line (records read w k s)) (line (read (part s (k * w) w))) a b)

module _ (w k : ℕ) where
  -- where n rows have room and k of them are passed, one more is there
  pub row-inside : (n : ℕ) (s : List ℕ) → k < n → n * w ≤ length s → w ≤ length (drop (k * w) s)
  row-inside n s h room =
      let m : (k + 1) * w ≤ n * w = let l : k + 1 ≤ n = omega arith in mul-le-mul_right w l in
      let e : (k + 1) * w ≡ w + k * w = rw (add-one, suc-mul) (omega arith) in
      rw length-drop (omega arith)

  pub next-row : (s : List ℕ) → drop w (drop (k * w) s) ≡ drop ((k + 1) * w) s
  next-row s = let e : k * w + w ≡ (k + 1) * w = rw (add-one, suc-mul) (omega arith) in drop-drop w (k * w) s ∙ ap (λ (i : ℕ). drop i s) e

-- a line of what each row is read as is a line of the row
pub each-records : {A : Type 0} (line : A → List ℕ) (read : List ℕ → A) (w n : ℕ) (s : List ℕ)
    → each (λ (r : List ℕ). line (read r)) (records (λ (r : List ℕ). r) w n s) ≡ each line (records read w n s)
unfolding each records
each-records line read w zero s = refl
each-records line read w (suc n) s = ap (λ (l : List ℕ). line (read (take w s)) ++ l) (each-records line read w n (drop w s))
