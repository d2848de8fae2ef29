-- What holds of an object that is accepted: section by section, what was not refused.
use Rattle.std.specs.Prelude.{◌≡◌, refl, Bool, true, false, cond, ◌||◌, not, List, [], ◌∷◌, map, ℕ, zero, suc, ◌+◌, ◌<◌, ◌≤◌, ◌%◌, eqb, ltb, leb, length, None, Option, Some}
use Rattle.std.proofs.Common.{sym, ap, ◌∙◌, inl, inr, arith, eqb-true, ltb-false}
use Rattle.std.proofs.lemmas.Bool.{eqb-false, not-false}
use Rattle.model.specs.declared.EbpfSectionKind.{EbpfSectionKind as Kind}
use Rattle.model.specs.Bytes.{ascii, or_else, first_in, find, maybe, each, ◌∈◌}
use Rattle.model.specs.Object.{Section, Symbol, Object}
use Rattle.model.specs.SectionKind.{is_kind, kind_of}
use Rattle.model.specs.ProgramName.{from_str, section_number}
use Rattle.model.specs.Instruction.{invalid_program_code}
use Rattle.model.specs.Catalogue.{Function}
use Rattle.model.specs.Symbols.{top, symbols_of, program_symbols, defined_text, text_symbol_at, Stop, stops, walk_of, first_named}
use Rattle.model.specs.Contents.{function_at, program_function, text_function, functions_of}
use Rattle.model.specs.Refusals.{of_section, of_symbol, of_number, reloc_refusal, licence_refusal, version_refusal, passes, is_empty, program_symbol_refusal, program_refusal, shared_refusal, stop_refusal, text_refusal, kind_refusal, section_refusal, object_refusal, refusal_of}
use Rattle.guarantees.specs.OptionsAndLists.{not_some, or_else-none, refuse-none, both_false, first_in-none, find-∈, map-∈, each-∈}
use Rattle.guarantees.specs.SecondHalf.{none-parts}
use Rattle.model.specs.Bytes.{AllBytes}

-- 'Section .. indexes are at least 1 and rise strictly'
abbrev pub Rising : ℕ → List Section → Type 0
Rising n [] = Unit {0}
Rising n (s ∷ ss) = (n < s.index.0) × Rising s.index.0 ss

-- what holds of the object that a deposit states, by number 2, and of a file's: the section indexes rise from 1 on, and data are bytes
pub record Stated (o : Object) : Type 0 where
  pub rising : Rising 0 o.sections
  pub bytes : (s : Section) → s ∈ o.sections → AllBytes s.bytes

-- 'accepted without patches or rewriting'
abbrev pub Accepted : Object → Type 0
Accepted o = refusal_of o [] ≡ None

-- ---- indexes tell sections apart

pub rising-above : (n : ℕ) (ss : List Section) (s : Section) → Rising n ss → s ∈ ss → n < s.index.0
rising-above n [] s r m = absurd m
rising-above n (t ∷ ss) s r (inl q) = rw q r.0
rising-above n (t ∷ ss) s r (inr m) =
    let k : t.index.0 < s.index.0 = rising-above t.index.0 ss s r.1 m in let j : n < t.index.0 = r.0 in omega arith

pub one_index : (n : ℕ) (ss : List Section) (s t : Section) → Rising n ss → s ∈ ss → t ∈ ss → s.index ≡ t.index → s ≡ t
one_index n [] s t r p q e = absurd p
one_index n (u ∷ ss) s t r (inl p) (inl q) e = p ∙ sym q
one_index n (u ∷ ss) s t r (inl p) (inr q) e =
    let k : u.index.0 < t.index.0 = rising-above u.index.0 ss t r.1 q in
    let f : t.index.0 ≡ u.index.0 = ap (λ x. x.0) (sym e) ∙ ap (λ x. x.index.0) p in
    let no : ⊥ = omega arith in
    absurd no
one_index n (u ∷ ss) s t r (inr p) (inl q) e =
    let k : u.index.0 < s.index.0 = rising-above u.index.0 ss s r.1 p in
    let f : s.index.0 ≡ u.index.0 = ap (λ x. x.0) e ∙ ap (λ x. x.index.0) q in
    let no : ⊥ = omega arith in
    absurd no
one_index n (u ∷ ss) s t r (inr p) (inr q) e = one_index u.index.0 ss s t r.1 p q e

-- ---- what is not refused

pub section-accepted : (o : Object) (s : Section) → Accepted o → s ∈ o.sections → section_refusal o s ≡ None
unfolding object_refusal
section-accepted o s h m =
    let (u, v) = none-parts o [] h in
    let (a, b) = or_else-none (maybe (first_named (ascii "license") o.sections) None licence_refusal) (or_else (maybe (first_named (ascii "version") o.sections) None (version_refusal o.order)) (first_in (section_refusal o) o.sections)) u in
    let (c, d) = or_else-none (maybe (first_named (ascii "version") o.sections) None (version_refusal o.order)) (first_in (section_refusal o) o.sections) b in
    first_in-none (section_refusal o) s o.sections d m

kind-accepted : (o : Object) (s : Section) → is_kind Kind.BtfExt (kind_of s) ≡ false → section_refusal o s ≡ None → kind_refusal o s ≡ None
unfolding section_refusal
kind-accepted o s e h = (or_else-none (reloc_refusal s) (kind_refusal o s) (rw e at h)).1

text-kind : (o : Object) (s : Section) → kind_of s ≡ Kind.Text → kind_refusal o s ≡ None → text_refusal o s ≡ None
unfolding kind_refusal
text-kind o s e h = rw e at h

pub text-accepted : (o : Object) (s : Section) → Accepted o → s ∈ o.sections → kind_of s ≡ Kind.Text → first_in (stop_refusal s) (walk_of o s) ≡ None
unfolding text_refusal
text-accepted o s h m e =
    let k : is_kind Kind.BtfExt (kind_of s) ≡ false = rw e in
    (or_else-none (shared_refusal s [] (defined_text o s)) (first_in (stop_refusal s) (walk_of o s)) (text-kind o s e (kind-accepted o s k (section-accepted o s h m)))).1

program-kind : (o : Object) (s : Section) → kind_of s ≡ Kind.Program → kind_refusal o s ≡ None → program_refusal o s ≡ None
unfolding kind_refusal
program-kind o s e h = rw e at h

-- what is known of a program's symbol
pub record Fits (s : Section) (y : Symbol) : Type 0 where
  pub inside : y.address + y.size ≤ length s.bytes
  pub eights : y.size % 8 ≡ 0

pub program-accepted : (o : Object) (s : Section) (y : Symbol) → Accepted o → s ∈ o.sections → kind_of s ≡ Kind.Program → y ∈ program_symbols o s → Fits s y
unfolding program_refusal program_symbol_refusal passes invalid_program_code
program-accepted o s y h m e n =
    let k : is_kind Kind.BtfExt (kind_of s) ≡ false = rw e in
    let r : program_refusal o s ≡ None = program-kind o s e (kind-accepted o s k (section-accepted o s h m)) in
    let (a, b) = or_else-none (of_number s (section_number (from_str s.name))) (or_else (of_section 9 s (is_empty (symbols_of o s))) (first_in (program_symbol_refusal s) (program_symbols o s))) r in
    let (c, d) = or_else-none (of_section 9 s (is_empty (symbols_of o s))) (first_in (program_symbol_refusal s) (program_symbols o s)) b in
    let f : program_symbol_refusal s y ≡ None = first_in-none (program_symbol_refusal s) y (program_symbols o s) d n in
    let big = ltb (length s.bytes) (y.address + y.size) in
    let wide = ltb top (y.address + y.size) in
    let low = ltb y.address s.address in
    let (u, v) = or_else-none (of_symbol 10 s y ((big || wide) || low)) (of_symbol 15 s y (not (eqb (y.size % 8) 0))) f in
    record {
      inside = ltb-false _ _ (both_false big wide (both_false (big || wide) low (refuse-none _ 10 s.index y.index 0 u)).0).0;
      eights = eqb-true _ _ (not-false _ (refuse-none _ 15 s.index y.index 0 v));
    }

-- what is known of a text address that a walk comes to
pub record Met (s : Section) (at : ℕ) (y : Symbol) : Type 0 where
  pub some : 0 < y.size
  pub inside : at + y.size ≤ length s.bytes
  pub eights : y.size % 8 ≡ 0

pub stop-accepted : (s : Section) (at : ℕ) (y : Symbol) → stop_refusal s (record { at = at; met = Some y }) ≡ None → Met s at y
unfolding stop_refusal invalid_program_code
stop-accepted s at y h =
    let (a, b) = or_else-none (of_symbol 13 s y (eqb y.size 0)) (or_else (of_symbol 14 s y (ltb (length s.bytes) (at + y.size))) (of_symbol 15 s y (not (eqb (y.size % 8) 0)))) h in
    let (c, d) = or_else-none (of_symbol 14 s y (ltb (length s.bytes) (at + y.size))) (of_symbol 15 s y (not (eqb (y.size % 8) 0))) b in
    let ne : (y.size ≡ 0) → ⊥ = eqb-false y.size 0 (refuse-none _ 13 s.index y.index 0 a) in
    record {
      some = omega arith;
      inside = ltb-false _ _ (refuse-none _ 14 s.index y.index 0 c);
      eights = eqb-true _ _ (not-false _ (refuse-none _ 15 s.index y.index 0 d));
    }

-- the symbol that a walk meets is one of those that it searches, at the section's address plus the offset
pub stop-∈ : (n : ℕ) (s : Section) (ys : List Symbol) (at : ℕ) (p : Stop) (y : Symbol) → p ∈ stops n s ys at → p.met ≡ Some y
    → (y ∈ ys) × (y.address ≡ s.address + p.at)
unfolding stops text_symbol_at
stop-∈ zero s ys at p y m e = absurd m
stop-∈ (suc n) s ys at p y m e = go (ltb at (length s.bytes)) (text_symbol_at s ys at) refl m (λ z k. stop-∈ n s ys (at + z.size) p y k e)
  where
    here : (b : Bool) → cond b (find (λ z. eqb z.address (s.address + at)) ys) None ≡ Some y → (y ∈ ys) × (y.address ≡ s.address + at)
    here true q = let (m, k) = find-∈ (λ z. eqb z.address (s.address + at)) y ys q in (m, eqb-true _ _ k)
    here false q = not_some y (sym q)

    go : (b : Bool) (t : Option Symbol) → text_symbol_at s ys at ≡ t
        → p ∈ cond b (record { at = at; met = t } ∷ maybe t [] (λ z. stops n s ys (at + z.size))) []
        → ((z : Symbol) → p ∈ stops n s ys (at + z.size) → (y ∈ ys) × (y.address ≡ s.address + p.at))
        → (y ∈ ys) × (y.address ≡ s.address + p.at)
    go true t q (inl k) r =
        let (m, a) = here (leb (s.address + at) top) (q ∙ sym (ap (λ x. x.met) k) ∙ e) in (m, a ∙ ap (λ x. s.address + x.at) (sym k))
    go true None q (inr k) r = absurd k
    go true (Some z) q (inr k) r = r z k
    go false t q k r = absurd k

-- ---- the functions of one section

-- every function of a section has its index
pub functions-section : (o : Object) (s : Section) (f : Function) → f ∈ functions_of o s → f.section ≡ s.index
unfolding functions_of text_function program_function function_at
functions-section o s f m = go (is_kind Kind.Program (kind_of s)) (is_kind Kind.Text (kind_of s)) m
  where
    here : (p : Stop) → f ∈ text_function s p → f.section ≡ s.index
    here p n = at p.met n
      where
        at : (y : Option Symbol) → f ∈ maybe y [] (λ z. function_at s (s.address + p.at) p.at z ∷ []) → f.section ≡ s.index
        at None n = absurd n
        at (Some y) (inl q) = ap (λ g. g.section) q
        at (Some y) (inr n) = absurd n

    program-here : (y : Symbol) → f ≡ program_function s y → f.section ≡ s.index
    program-here y q = ap (λ g. g.section) q

    go : (a b : Bool) → f ∈ cond a (map (program_function s) (program_symbols o s)) (cond b (each (text_function s) (walk_of o s)) []) → f.section ≡ s.index
    go true b m = let (y, n, q) = map-∈ (program_function s) f (program_symbols o s) m in program-here y q
    go false true m = let (p, n, k) = each-∈ (text_function s) f (walk_of o s) m in here p k
    go false false m = absurd m
