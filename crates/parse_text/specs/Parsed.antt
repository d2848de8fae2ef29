-- What parsing a text section answers, by the records.
use Rattle.std.specs.Prelude.{◌≡◌, List, [], ◌∷◌, ◌++◌, ℕ, suc, ◌+◌, ◌-◌, ◌<◌, ◌≤◌, eqb, ltb, length, drop, Err, None, Ok, Option, Result, Some}
use Rattle.std.proofs.Math.Path.{refl, ap}
use Rattle.std.proofs.Common.{sym, ◌∙◌, arith, le-leb}
use Rattle.std.proofs.lemmas.Bool.{lt-leb}
use Rattle.lists.specs.Tab.{tab}
use Rattle.model.specs.declared.Endianness.{Endianness}
use Rattle.model.specs.declared.SectionIndex.{SectionIndex}
use Rattle.model.specs.declared.SymbolIndex.{SymbolIndex}
use Rattle.object_view.specs.declared.View.{View}
use Rattle.model.specs.declared.SectionRecord.{SectionRecord}
use Rattle.model.specs.declared.SymbolRecord.{SymbolRecord}
use Rattle.model.specs.declared.Refusal.{Refusal}
use Rattle.model.specs.Bytes.{or_else, maybe}
use Rattle.model.specs.Object.{Section}
use Rattle.model.specs.Symbols.{top}
use Rattle.model.specs.Instruction.{invalid_program_code}
use Rattle.model.specs.Refusals.{no_symbol, refuse, stop_refusal, text_refusal}
use Rattle.stream.specs.Stream.{length-bytes}
use Rattle.catalogue_laws.specs.Shared.{first_at, least_again}
use Rattle.catalogue_laws.specs.Walk.{number_in, walk_refusal, walk_numbers, walk_end, walk-lost, walk-met}
use Rattle.records.specs.View.{gap_of, symbol_at}
use Rattle.object.specs.View.{section_from, symbol_from, section_in, symbol_in, object_in}
use Rattle.object.specs.Checked.{checked_of}
use Rattle.parse_text.specs.Group.{address_in, text_group, text_in}
use Rattle.parse_text.specs.Kept.{refusal_at, kept_numbers, kept-end, kept-lost, kept-refused, kept-met, text_numbers, text-by-walk, numbers-by-walk, numbers-accepted}

abbrev pub refusal : ℕ → SectionIndex → SymbolIndex → Refusal
refusal n s y = record { number = n; section = s; symbol = y; entry = 0 }

abbrev pub unknown_symbol : SectionRecord → Refusal
unknown_symbol s = refusal 12 s.index no_symbol

-- 13 to 15 by the records
unfoldable pub invalid_symbol : SectionRecord → SymbolRecord → ℕ → Option Refusal
invalid_symbol s y o =
    or_else (refuse (eqb y.size 0) 13 s.index y.index 0)
    (or_else (refuse (ltb s.bytes.length (o + y.size)) 14 s.index y.index 0)
    (refuse (invalid_program_code y.size) 15 s.index y.index 0))

-- what a check's answer says of the refusal
pub checked-fine : (q : Option Refusal) → checked_of q ≡ Ok tt → q ≡ None
checked-fine None e = refl
checked-fine (Some r) e = let z : ◌≡◌ {A = ℕ} 0 1 = cc in absurd (omega arith)

pub checked_refused : (q : Option Refusal) (r : Refusal) → checked_of q ≡ Err r → q ≡ Some r
checked_refused None r e = let z : ◌≡◌ {A = ℕ} 0 1 = cc in absurd (omega arith)
checked_refused (Some x) r e = cc

abbrev pub parsed_text : Option Refusal → ℕ → Result ℕ Refusal
parsed_text None n = Ok n
parsed_text (Some r) n = Err r

-- the numbers m laid into a list from its front
abbrev pub numbers_laid : List ℕ → List ℕ → List ℕ
numbers_laid out m = m ++ drop (length m) out

module _ (d t : List ℕ) (v : View) (s : SectionRecord) where
  abbrev sec : Section
  sec = section_from d t v s

  abbrev endian : Endianness
  endian = v.order

  abbrev sections : List Section
  sections = tab (section_in d t v) v.sections

  -- the walk from an offset on: what it is refused with, the numbers it keeps, and the one at the offset
  abbrev pub walk_from : ℕ → ℕ → Option Refusal
  walk_from = walk_refusal endian sections (symbol_in d t v) v.symbols sec

  abbrev pub kept_from : ℕ → ℕ → List ℕ
  kept_from = kept_numbers endian sections (symbol_in d t v) v.symbols sec

  abbrev pub number_from : ℕ → Option ℕ
  number_from = number_in endian sections (symbol_in d t v) v.symbols sec

  data-length : length sec.bytes ≡ s.bytes.length
  unfolding section_from
  data-length = length-bytes d (gap_of v) (v.at.bytes + s.bytes.at) s.bytes.length

  -- the number at an offset, by the search for its address
  pub number_passed : (o : ℕ) → top < s.address + o → number_from o ≡ None
  unfolding section_from
  number_passed o l = rw (lt-leb (s.address + o) top l)

  pub number-found : (o : ℕ) (q : Option ℕ) → s.address + o ≤ top → first_at (address_in d t v) (s.address + o) (text_in d t v sec) ≡ q → number_from o ≡ q
  unfolding section_from
  number-found o q l f = rw (le-leb (s.address + o) top l) f

  stop-by-record : (o j : ℕ)
      → refusal_at endian sections (symbol_in d t v) v.symbols sec o j ≡ invalid_symbol s (symbol_at d t v j) o
  unfolding section_from symbol_from stop_refusal invalid_symbol
  stop-by-record o j = rw length-bytes

  size-by-record : (j : ℕ) → (symbol_in d t v j).size ≡ (symbol_at d t v j).size
  unfolding symbol_from
  size-by-record j = refl

  -- the walk at an offset
  pub walk-at-end : (f o : ℕ) → s.bytes.length ≤ o → (walk_from f o ≡ None) × (kept_from f o ≡ [])
  walk-at-end f o l =
      let p : length sec.bytes ≤ o = rw data-length l in (
        walk_end endian sections (symbol_in d t v) v.symbols sec f o p,
        kept-end endian sections (symbol_in d t v) v.symbols sec f o p,
      )

  module _ (f o : ℕ) (l : o < s.bytes.length) (m : 0 < f) where
    before-end : o < length sec.bytes
    before-end = rw data-length l

    fuelled : f ≡ suc (f - 1)
    fuelled = omega arith

    pub walk-at-none : number_from o ≡ None → (walk_from f o ≡ Some (unknown_symbol s)) × (kept_from f o ≡ [])
    unfolding section_from
    walk-at-none q = (
      ap (λ g. walk_from g o) fuelled ∙ walk-lost endian sections (symbol_in d t v) v.symbols sec (f - 1) o before-end q,
      kept-lost endian sections (symbol_in d t v) v.symbols sec f o q,
    )

    met : (j : ℕ) → number_from o ≡ Some j → walk_from f o ≡ or_else (invalid_symbol s (symbol_at d t v j) o) (walk_from (f - 1) (o + (symbol_at d t v j).size))
    met j q =
        ap (λ g. walk_from g o) fuelled
        ∙ walk-met endian sections (symbol_in d t v) v.symbols sec (f - 1) o j before-end q
        ∙ rw (stop-by-record o j, size-by-record j)

    pub walk-at-refused : (j : ℕ) (r : Refusal) → number_from o ≡ Some j → invalid_symbol s (symbol_at d t v j) o ≡ Some r → (walk_from f o ≡ Some r) × (kept_from f o ≡ [])
    walk-at-refused j r q e = (
      met j q ∙ rw e,
      kept-refused endian sections (symbol_in d t v) v.symbols sec f o j r q (stop-by-record o j ∙ e),
    )

    pub walk-at-met : (j : ℕ) → number_from o ≡ Some j → invalid_symbol s (symbol_at d t v j) o ≡ None
        → (walk_from f o ≡ walk_from (f - 1) (o + (symbol_at d t v j).size)) × (kept_from f o ≡ j ∷ kept_from (f - 1) (o + (symbol_at d t v j).size))
    walk-at-met j q e = (
      met j q ∙ rw e,
      ap (λ g. kept_from g o) fuelled
          ∙ kept-met endian sections (symbol_in d t v) v.symbols sec (f - 1) o j before-end q (stop-by-record o j ∙ e)
          ∙ rw (size-by-record j),
    )

  -- what the walk answers and leaves in the lent numbers
  pub record Walked (out₀ : List ℕ) (r : Result ℕ Refusal) (out : List ℕ) : Type 0 where
    pub answer : r ≡ parsed_text (walk_from s.bytes.length 0) (length (kept_from s.bytes.length 0))
    pub numbers : out ≡ numbers_laid out₀ (kept_from s.bytes.length 0)

  -- ---- the whole section

  unfoldable pub walked_numbers : List ℕ
  walked_numbers = text_numbers endian sections (symbol_in d t v) v.symbols sec

  -- of an accepted section they are those of its walk
  pub numbers-of-walk : text_refusal (object_in d t v) sec ≡ None
      → walked_numbers ≡ walk_numbers endian sections (symbol_in d t v) v.symbols sec (length sec.bytes) 0
  unfolding walked_numbers object_in
  numbers-of-walk e = numbers-accepted endian sections (symbol_in d t v) v.symbols sec e

  abbrev least : Option ℕ
  least = least_again (address_in d t v) (text_in d t v sec)

  refusal_is : text_refusal (object_in d t v) sec
      ≡ or_else (maybe least None (λ j. Some (refusal 11 s.index (symbol_at d t v j).index))) (walk_from s.bytes.length 0)
  unfolding object_in section_from symbol_from
  refusal_is =
      text-by-walk endian sections (symbol_in d t v) v.symbols sec ∙ rw length-bytes

  numbers-are : walked_numbers ≡ maybe least (kept_from s.bytes.length 0) (λ j. [])
  unfolding walked_numbers
  numbers-are = numbers-by-walk endian sections (symbol_in d t v) v.symbols sec ∙ rw data-length

  -- what parsing a section answers and leaves in the lent numbers
  pub record TextParsed (out₀ : List ℕ) (r : Result ℕ Refusal) (out : List ℕ) : Type 0 where
    pub answer : r ≡ parsed_text (text_refusal (object_in d t v) sec) (length walked_numbers)
    pub numbers : out ≡ numbers_laid out₀ walked_numbers

  module _ (group : List ℕ) (e : text_group d t v group ≡ text_in d t v sec) where
    -- 11
    pub parsed-conflict : (c : Option ℕ) (out₀ : List ℕ) (j : ℕ) → c ≡ least_again (address_in d t v) (text_group d t v group) → c ≡ Some j
        → TextParsed out₀ (Err (refusal 11 s.index (symbol_at d t v j).index)) out₀
    parsed-conflict c out₀ j p q =
        let f : least ≡ Some j = rw e at (sym p ∙ q) in
        let r : text_refusal (object_in d t v) sec ≡ Some (refusal 11 s.index (symbol_at d t v j).index) = refusal_is ∙ rw f in
        let m : walked_numbers ≡ [] = numbers-are ∙ rw f in
        record { answer = rw r; numbers = rw m }

    -- the walk
    pub parsed-walk : (c : Option ℕ) (out₀ : List ℕ) (r : Result ℕ Refusal) (out : List ℕ)
        → c ≡ least_again (address_in d t v) (text_group d t v group) → c ≡ None → Walked out₀ r out → TextParsed out₀ r out
    parsed-walk c out₀ r out p q g =
        let f : least ≡ None = rw e at (sym p ∙ q) in
        let a : text_refusal (object_in d t v) sec ≡ walk_from s.bytes.length 0 = refusal_is ∙ rw f in
        let m : walked_numbers ≡ kept_from s.bytes.length 0 = numbers-are ∙ rw f in
        record { answer = rw (a, m) g.answer; numbers = rw m g.numbers }
