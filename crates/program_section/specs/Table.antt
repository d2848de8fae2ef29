-- What the numbers of a name's two pieces tell: computed for each word of the table, and carried to every name.
use Rattle.program_section.specs.declared.Variant.{Variant}
use Rattle.std.specs.Prelude.{◌≡◌, Bool, cond, ◌&&◌, ℕ, ◌+◌, ◌/◌, ◌%◌, eqb, ltb, None, Option, Some}
use Rattle.std.proofs.Math.Path.{refl, subst}
use Rattle.std.proofs.Common.{sym, ◌∙◌}
use Rattle.std.proofs.Math.Bool.{true, false}
use Rattle.std.proofs.lemmas.Bool.{false≢true}
use mathlib.Core.List.{List, [], ◌∷◌, ◌++◌, map}
use Rattle.model.specs.declared.ProgramSection.{ProgramSection}
use Rattle.model.specs.Bytes.{same, first_in}
use Rattle.model.specs.ProgramName.{Second, Reading, fits, readings}
use Rattle.model.specs.ProgramNumbers.{variant_of}
use Rattle.model.specs.ReadBack.{program_from}
use Rattle.orders.specs.Keys.{same-is}
use Rattle.program_section.specs.Same.{and_left, and_right}
use Rattle.program_section.specs.Short.{row_gives, parsed, all_rows, rows_alike, none-gives}
use Rattle.program_section.specs.Found.{row_variant, shown_in, parsed_in, Tells}
use Rattle.program_section.specs.Words.{Entry, answering, reading, second, word_table, word_number}

-- what a name's number tells
abbrev pub told_by : Option ℕ → Option Variant
told_by None = None
told_by (Some n) = Some (row_variant n)

-- a first piece that reads a second: without one, and by both numbers
abbrev pub alone : ℕ → Option ℕ
alone n = cond (ltb n 0x30000) (Some n) None

abbrev pub with_second : ℕ → Option ℕ → Option ℕ
with_second n None = None
with_second n (Some k) = cond (eqb (k / 0x10000) (n / 0x10000 + 16)) (Some (n + k % 0x10000)) None

abbrev read_as : ℕ → Option (List ℕ) → Option ℕ
read_as n None = alone n
read_as n (Some q) = with_second n (word_number word_table q)

abbrev pub piece_answer : Option ℕ → Option (List ℕ) → Option Variant
piece_answer None q = None
piece_answer (Some n) q = told_by (cond (ltb n 0x10000) (Some n) (cond (ltb n 0x60000) (read_as n q) None))

-- ---- words of the table, and words that it lacks

abbrev pub Each : (Entry → Type 0) → List Entry → Type 0
Each M [] = Unit {0}
Each M (e ∷ es) = M e × Each M es

each_append : (M : Entry → Type 0) (es fs : List Entry) → Each M es → Each M fs → Each M (es ++ fs)
each_append M [] fs a b = b
each_append M (e ∷ es) fs a b = (a.0, each_append M es fs a.1 b)

each_map : (M N : Entry → Type 0) → ((e : Entry) → M e → N e) → (es : List Entry) → Each M es → Each N es
each_map M N f [] a = tt
each_map M N f (e ∷ es) a = (f e a.0, each_map M N f es a.1)

abbrev is_in : List ℕ → List Entry → Bool
is_in w [] = false
is_in w (e ∷ es) = cond (same e.word w) true (is_in w es)

module _ (p : List ℕ) where
  abbrev pub Missing : List Entry → Type 0
  Missing [] = Unit {0}
  Missing (e ∷ es) = (same e.word p ≡ false) × Missing es

  pub by-words : (M : List ℕ → Option ℕ → Type 0) (es : List Entry) → Each (λ e. M e.word (Some e.number)) es → (Missing es → M p None) → M p (word_number es p)
  unfolding word_number
  by-words M [] a lack = lack tt
  by-words M (e ∷ es) a lack = go (same e.word p) refl (λ h. by-words M es a.1 (λ m. lack (h, m)))
    where
      go : (b : Bool) → same e.word p ≡ b → (same e.word p ≡ false → M p (word_number es p)) → M p (cond b (Some e.number) (word_number es p))
      go true h r = subst (λ (x : List ℕ). M x (Some e.number)) (same-is e.word p h) a.0
      go false h r = r h

  missing-word : (w : List ℕ) (es : List Entry) → Missing es → is_in w es ≡ true → same w p ≡ false
  missing-word w [] m t = absurd (false≢true t)
  missing-word w (e ∷ es) m t = go (same e.word w) refl t (missing-word w es m.1)
    where
      go : (b : Bool) → same e.word w ≡ b → cond b true (is_in w es) ≡ true → (is_in w es ≡ true → same w p ≡ false) → same w p ≡ false
      go true h t r = subst (λ (x : List ℕ). same x p ≡ false) (same-is e.word w h) m.0
      go false h t r = r t

missing-empty : (es : List Entry) → is_in [] es ≡ false → Missing [] es
missing-empty [] t = tt
missing-empty (e ∷ es) t = go (same e.word []) refl t (missing-empty es)
  where
    go : (b : Bool) → same e.word [] ≡ b → cond b true (is_in [] es) ≡ false → (is_in [] es ≡ false → Missing [] es) → (same e.word [] ≡ false) × Missing [] es
    go true h t r = absurd (false≢true (sym t))
    go false h t r = (h, r t)

-- ---- rows of document 01, whose words are all in the table

abbrev known_second : Second → Bool
known_second Second.unread = true
known_second Second.absent = true
known_second (Second.is w) = is_in w word_table

abbrev known_row : Reading → Bool
known_row r = is_in r.first word_table && known_second r.second

readings-known : all_rows known_row readings ≡ true
unfolding all_rows readings word_table answering reading second same
readings-known = refl

-- a first piece that the table lacks
lacked : (p : List ℕ) (q : Option (List ℕ)) → Missing p word_table → first_in (row_gives p q) readings ≡ None
lacked p q m =
    rows_alike known_row (row_gives p q) (λ r. None)
    (λ r t. rw (missing-word p r.first word_table m (and_left (is_in r.first word_table) (known_second r.second) t))) readings readings-known
    ∙ none-gives readings

-- an empty piece is none of its words
empty-lacked : Missing [] word_table
unfolding word_table answering reading second same
empty-lacked = missing-empty word_table refl

-- a second piece that it lacks fits where an empty one does
fits-lacked : (s : List ℕ) → Missing s word_table → (k : Second) → known_second k ≡ true → fits k (Some s) ≡ fits k (Some [])
unfolding fits
fits-lacked s m Second.unread t = refl
fits-lacked s m Second.absent t = refl
fits-lacked s m (Second.is w) t = missing-word s w word_table m t ∙ sym (missing-word [] w word_table empty-lacked t)

second-lacked : (w s : List ℕ) → Missing s word_table → first_in (row_gives w (Some s)) readings ≡ first_in (row_gives w (Some [])) readings
second-lacked w s m =
    rows_alike known_row (row_gives w (Some s)) (row_gives w (Some []))
    (λ r t. rw (fits-lacked s m r.second (and_right (is_in r.first word_table) (known_second r.second) t))) readings readings-known

-- ---- the words one by one

tells-each : (f : Entry → Option Variant) (g : Entry → Option ProgramSection) (es : List Entry) → map f es ≡ map (λ e. shown_in (g e)) es
    → map (λ e. parsed_in (f e)) es ≡ map (λ e. parsed (g e)) es → Each (λ e. Tells (f e) (g e)) es
tells-each f g [] a b = tt
tells-each f g (e ∷ es) a b = (record { shows = cc; gives = cc }, tells-each f g es (cc) (cc))

tells-grid : (f : Entry → Entry → Option Variant) (g : Entry → Entry → Option ProgramSection) (es fs : List Entry)
    → map (λ x. map (f x) es) fs ≡ map (λ x. map (λ e. shown_in (g x e)) es) fs
    → map (λ x. map (λ e. parsed_in (f x e)) es) fs ≡ map (λ x. map (λ e. parsed (g x e)) es) fs
    → Each (λ x. Each (λ e. Tells (f x e) (g x e)) es) fs
tells-grid f g es [] a b = tt
tells-grid f g es (x ∷ fs) a b = (tells-each (f x) (g x) es (cc) (cc), tells-grid f g es fs (cc) (cc))

abbrev TellsAt : Option (List ℕ) → Entry → Type 0
TellsAt q e = Tells (piece_answer (Some e.number) q) (first_in (row_gives e.word q) readings)

answering-tell : (q : Option (List ℕ)) → Each (TellsAt q) answering
unfolding answering readings first_in same fits variant_of program_from
answering-tell q = tells-each (λ e. piece_answer (Some e.number) q) (λ e. first_in (row_gives e.word q) readings) answering refl refl

second-tell : (q : Option (List ℕ)) → Each (TellsAt q) second
unfolding second readings first_in same fits variant_of program_from
second-tell q = tells-each (λ e. piece_answer (Some e.number) q) (λ e. first_in (row_gives e.word q) readings) second refl refl

-- first pieces that read a second, by the number of it
abbrev ReadAt : List ℕ → Option ℕ → Type 0
ReadAt s k = Each (λ e. Tells (told_by (with_second e.number k)) (first_in (row_gives e.word (Some s)) readings)) reading

read-words : Each (λ x. ReadAt x.word (Some x.number)) word_table
unfolding word_table answering reading second readings first_in same fits variant_of program_from
read-words =
    tells-grid (λ x e. told_by (with_second e.number (Some x.number))) (λ x e. first_in (row_gives e.word (Some x.word)) readings) reading word_table refl refl

read-empty : ReadAt [] None
unfolding reading readings first_in same fits variant_of program_from
read-empty = tells-each (λ e. told_by (with_second e.number None)) (λ e. first_in (row_gives e.word (Some [])) readings) reading refl refl

read-lacked : (s : List ℕ) → Missing s word_table → ReadAt s None
read-lacked s m =
    each_map (λ e. Tells (told_by (with_second e.number None)) (first_in (row_gives e.word (Some [])) readings)) _
    (λ e t. subst (Tells (told_by (with_second e.number None))) (sym (second-lacked e.word s m)) t) reading read-empty

reading-tell : (q : Option (List ℕ)) → Each (TellsAt q) reading
unfolding reading readings first_in same fits variant_of program_from
reading-tell None = tells-each (λ e. piece_answer (Some e.number) None) (λ e. first_in (row_gives e.word None) readings) reading refl refl
reading-tell (Some s) = by-words s ReadAt word_table read-words (read-lacked s)

-- the answer by the numbers of a name's two pieces
pub tells : (p : List ℕ) (q : Option (List ℕ)) → Tells (piece_answer (word_number word_table p) q) (first_in (row_gives p q) readings)
unfolding word_table
tells p q =
    by-words p (λ w n. Tells (piece_answer n q) (first_in (row_gives w q) readings)) word_table
    (each_append (TellsAt q) answering (reading ++ second) (answering-tell q) (each_append (TellsAt q) reading second (reading-tell q) (second-tell q)))
    (λ m. rw (lacked p q m) (record { shows = refl; gives = refl }))
