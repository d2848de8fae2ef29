-- A name that is the first m bytes of a longer list: its pieces lie there, and their numbers tell it.
use Rattle.std.specs.Prelude.{◌≡◌, Bool, true, ◌&&◌, List, [], ◌∷◌, ℕ, zero, suc, ◌-◌, ◌<◌, ◌≤◌, min, eqb, ltb, take, drop, None, Option, Some}
use Rattle.std.proofs.Math.Path.{refl, ap}
use Rattle.std.proofs.Common.{sym, ◌∙◌, arith, eqb-true, ltb-true, lt-ltb, le-ltb, length-take, take-take}
use Rattle.std.proofs.Math.Nat.{zero-min, min-zero, suc-min-suc}
use Rattle.std.proofs.Math.ListN.{length}
use Rattle.std.proofs.Math.Seq.{length-take-le, take-nil}
use Rattle.model.specs.ProgramName.{cut, first_piece, second_piece, program_of}
use Rattle.program_section.specs.Same.{and_left, and_right}
use Rattle.program_section.specs.Pieces.{until, until-le, first_piece_lem, second-piece}
use Rattle.program_section.specs.Short.{long-name}
use Rattle.program_section.specs.Found.{Tells}
use Rattle.program_section.specs.Words.{Entry, answering, reading, second, word_table, word_number, short-word}
use Rattle.program_section.specs.Table.{told_by, alone, with_second, piece_answer, Each, by-words, tells}

drop-take : (k m : ℕ) (l : List ℕ) → drop k (take m l) ≡ take (m - k) (drop k l)
drop-take zero m l = let e : m ≡ m - 0 = omega arith in ap (λ (n : ℕ). take n l) e
drop-take (suc k) zero l = let e : 0 ≡ 0 - suc k = omega arith in ap (λ (n : ℕ). take n (drop (suc k) l)) e
drop-take (suc k) (suc m) [] = sym (take-nil (suc m - suc k))
drop-take (suc k) (suc m) (x ∷ l) = let e : suc m - suc k ≡ m - k = omega arith in rw e (drop-take k m l)

-- a first piece in its list
piece-in : (m : ℕ) (l : List ℕ) → take (until (take m l)) (take m l) ≡ take (until (take m l)) l
piece-in m l = take-take (until (take m l)) m l (omega (arith, until-le (take m l), length-take m l))

take_min : (u k : ℕ) (r : List ℕ) → take (min u k) r ≡ take k (take u r)
take_min zero k r = rw zero-min (sym (take-nil k))
take_min (suc u) zero r = rw min-zero
take_min (suc u) (suc k) [] = rw suc-min-suc
take_min (suc u) (suc k) (x ∷ r) = rw suc-min-suc (ap (λ (l : List ℕ). x ∷ l) (take_min u k r))

short-piece : (u b : ℕ) (r : List ℕ) → b ≡ min u 18 → take b r ≡ take 18 (take u r)
short-piece u b r e = rw e (take_min u 18 r)

-- ---- no word of the table has a `/`

abbrev Whole : List ℕ → Type 0
Whole w = (until w ≡ length w) × (length w < 18)

unfoldable all_whole : List Entry → Bool
all_whole [] = true
all_whole (e ∷ es) = (eqb (until e.word) (length e.word) && ltb (length e.word) 18) && all_whole es

each-whole : (es : List Entry) → all_whole es ≡ true → Each (λ e. (k : ℕ) → Some e.number ≡ Some k → Whole e.word) es
unfolding all_whole
each-whole [] t = tt
each-whole (e ∷ es) t =
    let a = eqb (until e.word) (length e.word) in
    let b = ltb (length e.word) 18 in
    let h = and_left (a && b) (all_whole es) t in
    (λ k n. (eqb-true _ _ (and_left a b h), ltb-true _ _ (and_right a b h)), each-whole es (and_right (a && b) (all_whole es) t))

words-whole : all_whole word_table ≡ true
unfolding all_whole word_table answering reading second until
words-whole = refl

pub whole_word : (v : List ℕ) (m k : ℕ) → m ≤ length v → word_number word_table (take (min m 18) v) ≡ Some k → min m 18 ≡ min (until (take m v)) 18
whole_word v m k h n =
    let p = take (min m 18) v in
    let w : Whole p =
    by-words p (λ x o. (j : ℕ) → o ≡ Some j → Whole x) word_table (each-whole word_table words-whole) (λ l j z. cc) k n
    in
    let l : length p ≡ min m 18 = length-take-le (min m 18) v (omega arith) in
    let e : min m 18 ≡ m = omega (arith, w.1) in
    let u : until (take m v) ≡ m = rw (e) at (w.0 ∙ l) in
    rw u

module _ (v : List ℕ) (m : ℕ) (inside : m ≤ length v) where
  abbrev name : List ℕ
  name = take m v

  bound : until name ≤ m
  bound = omega (arith, until-le name, length-take m v)

  first-in : first_piece (cut name) ≡ take (until name) v
  first-in = first_piece_lem name ∙ piece-in m v

  pub window-long : 18 ≤ until name → Tells None (program_of name)
  unfolding program_of
  window-long h =
      let l : 18 ≤ length (first_piece (cut name)) = rw first-in (omega (arith, length-take-le (until name) v (omega (arith, bound)))) in
      rw (long-name (first_piece (cut name)) (second_piece (cut name)) l) (record { shows = refl; gives = refl })

  second_none : m ≤ until name → second_piece (cut name) ≡ None
  second_none h = second-piece name ∙ rw (le-ltb (until name) (length name) (omega (arith, length-take m v)))

  second-in : until name < m
      → second_piece (cut name) ≡ Some (take (until (take (m - suc (until name)) (drop (suc (until name)) v))) (drop (suc (until name)) v))
  second-in h =
      second-piece name
      ∙ rw (lt-ltb (until name) (length name) (omega (arith, length-take-le m v inside)), drop-take (suc (until name)) m v)
      (ap Some (piece-in (m - suc (until name)) (drop (suc (until name)) v)))

  -- n is the number of the first piece
  module _ (f : ℕ) (e : f ≡ until name) where
    told : (n : Option ℕ) → n ≡ word_number word_table (take f v) → Tells (piece_answer n (second_piece (cut name))) (program_of name)
    unfolding program_of
    told n is =
        let k : n ≡ word_number word_table (first_piece (cut name)) = is ∙ ap (λ (x : ℕ). word_number word_table (take x v)) e ∙ ap (word_number word_table) (sym first-in) in
        rw k (tells (first_piece (cut name)) (second_piece (cut name)))

    pub window-lacked : None ≡ word_number word_table (take f v) → Tells None (program_of name)
    window-lacked is = told None is

    module _ (n : ℕ) (is : Some n ≡ word_number word_table (take f v)) where
      pub window-first : n < 0x10000 → Tells (told_by (Some n)) (program_of name)
      window-first h = rw (lt-ltb n 0x10000 h) at (told (Some n) is)

      module _ (second : 0x10000 ≤ n) where
        pub window-none : 0x60000 ≤ n → Tells None (program_of name)
        window-none h = rw (le-ltb n 0x10000 second, le-ltb n 0x60000 h) at (told (Some n) is)

        module _ (read : n < 0x60000) where
          pub window-alone : m ≤ f → Tells (told_by (alone n)) (program_of name)
          window-alone h = rw (second_none (omega arith), le-ltb n 0x10000 second, lt-ltb n 0x60000 read) at (told (Some n) is)

          pub window-followed : f < m → (r : List ℕ) → r ≡ drop (suc f) v → (b : ℕ) (k : Option ℕ) → b ≡ min (until (take (m - suc f) r)) 18
              → k ≡ word_number word_table (take b r) → Tells (told_by (with_second n k)) (program_of name)
          window-followed h r s b k c d =
              let q = take (until (take (m - suc f) r)) r in
              let g : second_piece (cut name) ≡ Some q =
              second-in (omega arith) ∙ rw (s, e)
              in
              let t : take b r ≡ take 18 q = short-piece (until (take (m - suc f) r)) b r c in
              let j : k ≡ word_number word_table q = d ∙ ap (word_number word_table) t ∙ short-word q in
              rw j (rw (g, le-ltb n 0x10000 second, lt-ltb n 0x60000 read) at (told (Some n) is))
