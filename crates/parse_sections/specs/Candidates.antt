-- Numbers that a loop over sections puts at the front of a list.
use Rattle.std.specs.Prelude.{◌≡◌, List, ◌++◌, ℕ, ◌+◌, ◌-◌, ◌≤◌, min, length, take, drop}
use Rattle.std.proofs.Common.{sym, ap, ◌∙◌, append_assoc, arith, length-append, length-take, length-drop, take-append-drop, length-take-le, take-take, take_at, drop_at, drop-drop}
use Rattle.std.proofs.Math.Seq.{length_front}
use Rattle.std.proofs.lemmas.List.{take-append-le, drop-append-le}
use Rattle.std.proofs.lemmas.Slice.{between_is}
use Rattle.lists.specs.Tab.{rows, rows_none, rows_more}
use Rattle.catalogue_laws.specs.Groups.{LaidFrom}

-- cs are the first n of a list
pub record Candidates (cs : List ℕ) (n : ℕ) (out : List ℕ) : Type 0 where
  pub count : n ≡ length cs
  pub front : take n out ≡ cs

pub candidates-none : (f : ℕ → List ℕ) (out : List ℕ) → Candidates (rows f 0) 0 out
candidates-none f out = record { count = rw rows_none; front = rw rows_none }

module _ {cs : List ℕ} {n : ℕ} {out : List ℕ} (c : Candidates cs n out) where
  pub candidates-inside : n ≤ length out
  candidates-inside = let m : min n (length out) ≡ n = sym (length-take n out) ∙ ap length c.front ∙ sym c.count in omega arith

  -- in a part that is lent, and in the whole again
  pub candidates-lent : (k : ℕ) → n ≤ k → Candidates cs n (take k out)
  candidates-lent k h = record { count = c.count; front = take-take n k out h ∙ c.front }

  pub candidates-back : (rest : List ℕ) → Candidates cs n (out ++ rest)
  candidates-back rest = record { count = c.count; front = take-append-le n out rest candidates-inside ∙ c.front }

-- where what lies past them changes
pub candidates-past : {cs : List ℕ} {n : ℕ} {out : List ℕ} → Candidates cs n out → (k : ℕ) (rest : List ℕ) → n ≤ k → Candidates cs n (take k out ++ rest)
candidates-past c k rest h = candidates-back (candidates-lent c k h) rest

module _ (f : ℕ → List ℕ) (i : ℕ) {n : ℕ} {out : List ℕ} (c : Candidates (rows f i) n out) where
  -- one section more
  pub candidates-next : (xs out₂ : List ℕ) (m : ℕ) → f i ≡ xs → LaidFrom n m xs out out₂ → Candidates (rows f (i + 1)) m out₂
  candidates-next xs out₂ m e l =
      let more : rows f (i + 1) ≡ rows f i ++ xs = rows_more f i ∙ rw e in
      let len : length (rows f i ++ xs) ≡ m = rw (length-append, ← c.count) (sym l.count) in
      let all : out₂ ≡ (rows f i ++ xs) ++ drop m out = l.held ∙ rw (c.front, append_assoc) in
      record { count = rw (more, len); front = ap (take m) all ∙ take_at (rows f i ++ xs) (drop m out) m len ∙ sym more }

  -- what that section listed
  pub candidates-own : (out₂ : List ℕ) (m : ℕ) → Candidates (rows f (i + 1)) m out₂ → take (m - n) (drop n out₂) ≡ f i
  candidates-own out₂ m b = between_is out₂ n m ∙ ap (drop n) (b.front ∙ rows_more f i) ∙ drop_at (rows f i) (f i) n (sym c.count)

-- r numbers xs laid at the front of a part that is lent, k long from place n on
pub laid_behind : (n k r : ℕ) (xs out part : List ℕ) → r ≡ length xs → part ≡ xs ++ drop r (take k (drop n out)) → length part ≡ length (take k (drop n out))
    → LaidFrom n (n + r) xs out (take n out ++ (part ++ drop k (drop n out)))
laid_behind n k r xs out part e p l =
    let lent = take k (drop n out) in
    let few : r ≤ length lent = omega (arith, ap length p, length-append xs (drop r lent)) in
    let back : drop r lent ++ drop k (drop n out) ≡ drop (n + r) out = sym (drop-append-le r lent (drop k (drop n out)) few) ∙ ap (drop r) (take-append-drop k (drop n out)) ∙ drop-drop r n out in
    record { count = rw e; held = rw (p, append_assoc, back) }

-- how long a part is that is lent, from a to e
pub part_length : (a e n : ℕ) (l : List ℕ) → e ≡ a + n → e ≤ length l → length (take (e - a) (drop a l)) ≡ n
part_length a e n l h k = let z : e - a ≡ n = omega arith in rw z (length-take-le n (drop a l) (rw length-drop (omega arith)))

-- a list as long as it was, where a part of n from a on comes back
pub length-part-back : (a n : ℕ) (l x : List ℕ) → length x ≡ length (take n (drop a l)) → length (take a l ++ (x ++ drop n (drop a l))) ≡ length l
length-part-back a n l x h = rw (length-append, length_front (drop a l) x n h, ← length-append (take a l) (drop a l)) (ap length (take-append-drop a l))
