-- What parsing one section answers: why the object is refused, or how many functions it has.
use Rattle.std.specs.Prelude.{◌≡◌, refl, true, false, cond, List, [], ◌++◌, ℕ, length, drop, Err, None, Ok, Option, Result, Some, ⊤}
use Rattle.std.proofs.Common.{sym, ap, ◌∙◌}
use borrow.Author.Tests.{eqb-true}
use Rattle.lists.specs.Tab.{tab}
use Rattle.lists.specs.Tests.{not_some}
use Rattle.model.specs.declared.EbpfSectionKind.{EbpfSectionKind as Kind}
use Rattle.object_view.specs.declared.View.{View}
use Rattle.model.specs.declared.Refusal.{Refusal}
use Rattle.model.specs.declared.SectionRecord.{SectionRecord}
use Rattle.model.specs.Object.{Section, Object}
use Rattle.model.specs.Refusals.{no_symbol, untargeted, reloc_refusal, program_refusal, maps_refusal, text_refusal, kind_refusal, section_refusal}
use Rattle.model.specs.SectionKind.{kind_number, is_kind, kind_of}
use Rattle.catalogue_laws.specs.ByNumber.{program_members}
use Rattle.catalogue_laws.specs.FunctionsMaps.{function_numbers_in}
use Rattle.catalogue_laws.specs.Walk.{walk_numbers}
use Rattle.records.specs.View.{section_at}
use Rattle.object.specs.Checked.{checked_of}
use Rattle.object.specs.Group.{members_in, programs_among}
use Rattle.object.specs.View.{section_from, section_in, symbol_in, object_in}
use Rattle.catalogue_numbers.specs.Numbers.{functions_from}
use Rattle.parse_text.specs.Parsed as text
use Rattle.parse_text.specs.Parsed.{refusal, parsed_text, numbers_laid, numbers-of-walk}

-- a check's answer, of a section without functions
abbrev pub checked_text : Result ⊤ Refusal → Result ℕ Refusal
checked_text (Ok tt) = Ok 0
checked_text (Err r) = Err r

-- the answer for a refusal or none, and the numbers that are laid at the front of out₀ where there is none
pub record Answers (q : Option Refusal) (ns out₀ : List ℕ) (r : Result ℕ Refusal) (out : List ℕ) : Type 0 where
  pub answer : r ≡ parsed_text q (length ns)
  pub listed : q ≡ None → out ≡ numbers_laid out₀ ns

pub answers-refused : (q : Option Refusal) (x : Refusal) (ns out₀ out : List ℕ) → q ≡ Some x → Answers q ns out₀ (Err x) out
answers-refused q x ns out₀ out e = record { answer = rw e; listed = λ f. not_some x (sym e ∙ f) }

pub answers-fine : (q : Option Refusal) (ns out₀ out : List ℕ) (n : ℕ) → q ≡ None → n ≡ length ns → out ≡ ns ++ drop n out₀ → Answers q ns out₀ (Ok n) out
answers-fine q ns out₀ out n e c f = record { answer = rw (e, c); listed = λ z. f ∙ rw c }

-- a section without functions
pub answers-none : (q : Option Refusal) (out₀ : List ℕ) → Answers q [] out₀ (checked_text (checked_of q)) out₀
answers-none None out₀ = record { answer = refl; listed = λ z. refl }
answers-none (Some x) out₀ = record { answer = refl; listed = λ z. not_some x z }

module _ (d t : List ℕ) (v : View) (s : SectionRecord) where
  abbrev o : Object
  o = object_in d t v

  abbrev sec : Section
  sec = section_from d t v s

  -- the numbers that a text section's walk meets
  abbrev pub walked_in : List ℕ
  walked_in = walk_numbers v.order (tab (section_in d t v) v.sections) (symbol_in d t v) v.symbols sec (length sec.bytes) 0

  -- the numbers of a section's functions
  unfoldable pub functions_by : List ℕ
  functions_by =
      cond (is_kind Kind.Program (kind_of sec)) (programs_among d t v (members_in d t v s))
      (cond (is_kind Kind.Text (kind_of sec)) walked_in [])

  pub answers-text : (out₀ : List ℕ) (r : Result ℕ Refusal) (out : List ℕ) → text.TextParsed d t v s out₀ r out → Answers (text_refusal o sec) walked_in out₀ r out
  answers-text out₀ r out p = record { answer = go (text_refusal o sec) refl; listed = λ e. p.numbers ∙ ap (numbers_laid out₀) (numbers-of-walk d t v s e) }
    where
      go : (q : Option Refusal) → text_refusal o sec ≡ q → r ≡ parsed_text q (length walked_in)
      go None e = p.answer ∙ rw (e, numbers-of-walk d t v s e)
      go (Some x) e = p.answer ∙ rw e

  module _ (out₀ : List ℕ) (r : Result ℕ Refusal) (out : List ℕ) where
    pub kind-program : kind_of sec ≡ Kind.Program → Answers (program_refusal o sec) (programs_among d t v (members_in d t v s)) out₀ r out
        → Answers (kind_refusal o sec) functions_by out₀ r out
    unfolding kind_refusal functions_by
    kind-program e a = rw e a

    pub kind-text : kind_of sec ≡ Kind.Text → Answers (text_refusal o sec) walked_in out₀ r out → Answers (kind_refusal o sec) functions_by out₀ r out
    unfolding kind_refusal functions_by
    kind-text e a = rw e a

    -- 4, before what its kind is refused for
    pub section-kind : is_kind Kind.BtfExt (kind_of sec) ≡ false → untargeted sec.relocs ≡ false → Answers (kind_refusal o sec) functions_by out₀ r out
        → Answers (section_refusal o sec) functions_by out₀ r out
    unfolding section_refusal reloc_refusal
    section-kind e u a = rw (e, u) a

  module _ (out₀ : List ℕ) where
    pub kind-maps : kind_of sec ≡ Kind.Maps → Answers (kind_refusal o sec) functions_by out₀ (checked_text (checked_of (maps_refusal o sec))) out₀
    unfolding kind_refusal functions_by
    kind-maps e = rw e (answers-none (maps_refusal o sec) out₀)

    pub kind-btf-maps : kind_of sec ≡ Kind.BtfMaps → Answers (kind_refusal o sec) functions_by out₀ (Err (refusal 17 s.index no_symbol)) out₀
    unfolding kind_refusal functions_by section_from
    kind-btf-maps e = rw e (answers-none (Some (refusal 17 s.index no_symbol)) out₀)

    pub kind-other : is_kind Kind.Program (kind_of sec) ≡ false → is_kind Kind.Maps (kind_of sec) ≡ false → is_kind Kind.Text (kind_of sec) ≡ false
        → is_kind Kind.BtfMaps (kind_of sec) ≡ false → Answers (kind_refusal o sec) functions_by out₀ (Ok 0) out₀
    unfolding kind_refusal functions_by
    kind-other p m x b = rw (p, m, x, b) (answers-none None out₀)

    pub section-skipped : is_kind Kind.BtfExt (kind_of sec) ≡ true → Answers (section_refusal o sec) functions_by out₀ (Ok 0) out₀
    unfolding section_refusal functions_by
    section-skipped e = let n : 9 ≡ kind_number (kind_of sec) = eqb-true 9 (kind_number (kind_of sec)) e in rw (← n) (answers-none None out₀)

    pub section-untargeted : is_kind Kind.BtfExt (kind_of sec) ≡ false → untargeted sec.relocs ≡ true
        → Answers (section_refusal o sec) functions_by out₀ (Err (refusal 4 s.index no_symbol)) out₀
    unfolding section_refusal reloc_refusal section_from
    section-untargeted e u = answers-refused _ (refusal 4 s.index no_symbol) functions_by out₀ out₀ (rw (e, u))

-- by number
pub functions-by : (d t : List ℕ) (v : View) (i : ℕ) → functions_from d t v i ≡ functions_by d t v (section_at d t v i)
unfolding function_numbers_in program_members functions_by
functions-by d t v i = refl
