-- What std's methods answer, in the words of the definitions.
use Rattle.std.proofs.Common.{◌≡◌, refl, sym, ◌∙◌, cond, eqb, List, ℕ, ◌+◌, ◌-◌, ◌%◌, ◌≤◌, min, length, take, drop, take-take, position, nat_lt, Bool, true, false, arith, ltb-false, None, Some, ap}
use Rattle.std.specs.Str.{bytes_eq}
use Rattle.std.specs.List.{position_or_len}
use Rattle.std.specs.Option.{unwrap_or}
use Rattle.std.proofs.lemmas.List.Recursion.{is_position_or_len}
use Rattle.model.specs.Bytes.{same}
use Rattle.stream.specs.Same.{same-eq}
use Rattle.stream.specs.Stream.{place, bytes_at}
use Rattle.stream.specs.Laws.{bytes-block}
use Rattle.program_section.specs.Pieces.{until, until-le}
use Rattle.program_section.specs.Words.{word_table, word_number}
use Rattle.program_section.specs.Window.{whole_word}

-- `p == word`
pub same_is : (w s : List ℕ) → bytes_eq s w ≡ same w s
same_is w s = same-eq w s

-- `s.iter().position(|b| *b == b'/').unwrap_or(s.len())`
pub until_is : (s : List ℕ) → until s ≡ unwrap_or (position (λ b. eqb b 47) s) (length s)
unfolding until
until_is s = go (nat_lt (position_or_len slash s) (length s)) refl
  where
    slash : ℕ → Bool
    slash b = eqb b 47

    first : until s ≡ position_or_len slash s
    first = is_position_or_len until slash refl (λ x xs. ap (λ (k : ℕ). cond (eqb x 47) 0 k) (omega arith)) s

    go : (b : Bool) → nat_lt (position_or_len slash s) (length s) ≡ b → until s ≡ unwrap_or (cond b (Some (position_or_len slash s)) None) (length s)
    go true e = first
    go false e = omega (arith, first, until-le s, ltb-false _ _ e)

-- a word of the table is one piece
pub one_piece : (v : List ℕ) (m k : ℕ) → m ≤ length v → word_number word_table (take (min m 18) v) ≡ Some k
    → word_number word_table (take (min (until (take m v)) 18) v) ≡ Some k
one_piece v m k h e = rw (whole_word v m k h e) at e

-- a name that begins a window of 42 bytes of what was lent
pub window : (d : List ℕ) (gap p m i : ℕ) → i ≡ place gap p → p % 508 + m ≤ 508 → m ≤ 42 → i + 42 ≤ length d
    → take m (take (i + 42 - i) (drop i d)) ≡ bytes_at d gap p m
window d gap p m i e h few inside =
    let l : i + 42 - i ≡ 42 = omega arith in
    take-take m (i + 42 - i) (drop i d) (omega arith)
    ∙ ap (λ (k : ℕ). take m (drop k d)) e
    ∙ sym (bytes-block d gap p m h (omega arith))
