-- Worked look-ups in a table of three functions: section 1 at 0 and 8, section 2 at 0; two rows of zeros stand behind.
use Rattle.std.specs.Prelude.{◌≡◌, refl, List, [], ◌∷◌, ℕ, None, Option, Some}
use Rattle.model.specs.declared.Function.{Function}
use Rattle.model.specs.Bytes.{same, before}
use Rattle.model.specs.Lent.{zero_row}
use Rattle.model.specs.LookUp.{searched, found_in}

abbrev at : ℕ → ℕ → Function
at s a = record { section = record { 0 = s }; address = a; offset = 0; name = record { at = 0; length = 0 }; code = record { at = 0; length = 8 } }

abbrev table : List Function
table = at 1 0 ∷ at 1 8 ∷ at 2 0 ∷ zero_row ∷ zero_row ∷ []

-- the table as it is loaded: its first `count` rows, then the key
abbrev look : ℕ → ℕ → ℕ → Option ℕ
look count s a = found_in table count (s ∷ a ∷ [])

first-row : look 3 1 0 ≡ Some 0
unfolding found_in searched same before
first-row = refl

middle-row : look 3 1 8 ≡ Some 1
unfolding found_in searched same before
middle-row = refl

last_row : look 3 2 0 ≡ Some 2
unfolding found_in searched same before
last_row = refl

between-two : look 3 1 4 ≡ None
unfolding found_in searched same before
between-two = refl

address-of-another-section : look 3 2 8 ≡ None
unfolding found_in searched same before
address-of-another-section = refl

past-the-count : look 1 1 8 ≡ None
unfolding found_in searched same before
past-the-count = refl

no_rows : look 0 1 0 ≡ None
unfolding found_in searched same before
no_rows = refl

-- a count above the table's length is the length
more-than-there-are : found_in (at 1 0 ∷ at 1 8 ∷ []) 9 (1 ∷ 8 ∷ []) ≡ Some 1
unfolding found_in searched same before
more-than-there-are = refl
