-- Demand 3, first half, the text: its walk fills the data with functions, and the catalogue lists just those, in that order.
use Rattle.std.specs.Prelude.{◌≡◌, Bool, cond, ℕ, zero, suc, ◌+◌, ◌<◌, ◌≤◌, ◌/◌, ltb, length, drop, None, Option, Some}
use Rattle.std.proofs.Math.Path.{refl, ap}
use Rattle.std.proofs.Common.{sym, ◌∙◌, subst, inl, inr, arith, drop_of_length-le, take-append-drop, length-drop, drop-drop, length-take-le}
use Rattle.std.proofs.Math.Bool.{true, false}
use mathlib.Core.List.{List, [], ◌∷◌, ◌++◌, append-nil}
use borrow.Author.Tests.{ne_eqb, eq-eqb, ltb-false}
use Rattle.std.proofs.Math.Dec.{eqb}
use Rattle.model.specs.declared.SectionIndex.{SectionIndex}
use Rattle.model.specs.declared.EbpfSectionKind.{EbpfSectionKind as Kind}
use Rattle.model.specs.Bytes.{first_in, maybe, each, keep, push, part, ◌∈◌}
use Rattle.model.specs.Object.{Section, Symbol, Object}
use Rattle.model.specs.SectionKind.{kind_of}
use Rattle.model.specs.Catalogue.{Function, function_key}
use Rattle.model.specs.Table.{table_of}
use Rattle.model.specs.Instruction.{eight, instructions}
use Rattle.model.specs.Symbols.{text_symbol_at, Stop, stops, walk_of, defined_text}
use Rattle.model.specs.Contents.{function_at, text_function, functions_of, catalogue_of}
use Rattle.model.specs.Refusals.{stop_refusal}
use Rattle.guarantees.specs.OptionsAndLists.{not_some, or_else-none, first_in-none, each-∈}
use Rattle.guarantees.specs.TableLaws.{before-second, keep-table, table-sorted, Sorted}
use Rattle.model.specs.Lent.{function_code}
use Rattle.model.specs.Bytes.{AllBytes}
use Rattle.guarantees.specs.WordsOfDemand3.{functions_in, Rise, Follow, Covers, Joined}
use Rattle.encoding.specs.Code.{part-is}
use Rattle.guarantees.specs.AcceptedObjects.{Rising, Stated, Accepted, rising-above, text-accepted, Met, stop-accepted, stop-∈, functions-section}

-- functions that fill the data d from an offset on, from an address on
record Tiles (d : List ℕ) (at low : ℕ) (fs : List Function) : Type 0 where
  joined : each function_code fs ≡ drop at d
  follow : Follow at fs
  rise : Rise low fs

rise-from : (a b : ℕ) (fs : List Function) → a ≤ b → Rise b fs → Rise a fs
rise-from a b [] h r = tt
rise-from a b (f ∷ fs) h r = let q : b ≤ f.address = r.0 in (omega arith, r.1)

-- ---- the walk

walk-tiles : (s : Section) (ys : List Symbol) (n at : ℕ) → AllBytes s.bytes → length s.bytes ≤ n + at
    → first_in (stop_refusal s) (stops n s ys at) ≡ None → Tiles s.bytes at (s.address + at) (each (text_function s) (stops n s ys at))
unfolding stops each first_in text_function function_at stop_refusal
walk-tiles s ys zero at b l h =
    let k : length s.bytes ≤ at = omega arith in record { joined = sym (drop_of_length-le s.bytes k); follow = tt; rise = tt }
walk-tiles s ys (suc n) at b l h = go (ltb at (length s.bytes)) (text_symbol_at s ys at) refl h (λ y. walk-tiles s ys n (at + y.size) b)
  where
    go : (c : Bool) (m : Option Symbol) → ltb at (length s.bytes) ≡ c
        → first_in (stop_refusal s) (cond c (record { at = at; met = m } ∷ maybe m [] (λ y. stops n s ys (at + y.size))) []) ≡ None
        → ((y : Symbol) → length s.bytes ≤ n + (at + y.size) → first_in (stop_refusal s) (stops n s ys (at + y.size)) ≡ None
        → Tiles s.bytes (at + y.size) (s.address + (at + y.size)) (each (text_function s) (stops n s ys (at + y.size))))
        → Tiles s.bytes at (s.address + at) (each (text_function s) (cond c (record { at = at; met = m } ∷ maybe m [] (λ y. stops n s ys (at + y.size))) []))
    go false m e h r = record { joined = sym (drop_of_length-le s.bytes (ltb-false _ _ e)); follow = tt; rise = tt }
    go true None e h r = not_some _ h
    go true (Some y) e h r =
        let (u, v) = or_else-none (stop_refusal s (record { at = at; met = Some y })) (first_in (stop_refusal s) (stops n s ys (at + y.size))) h in
        let k : Met s at y = stop-accepted s at y u in
        let k₁ : 0 < y.size = k.some in
        let k₂ : at + y.size ≤ length s.bytes = k.inside in
        let t = r y (omega arith) v in
        let code : each eight (instructions (y.size / 8) (part s.bytes at y.size)) ≡ part s.bytes at y.size = part-is s.bytes at y.size k₂ k.eights b in
        let len : length (each eight (instructions (y.size / 8) (part s.bytes at y.size))) ≡ y.size =
        ap length code ∙ length-take-le y.size (drop at s.bytes) (rw length-drop (omega arith)) in
        let long : drop y.size (drop at s.bytes) ≡ drop (at + y.size) s.bytes = drop-drop y.size at s.bytes in
        record {
          joined = (λ i. code i ++ (t.joined ∙ sym long) i) ∙ take-append-drop y.size (drop at s.bytes);
          follow = (refl, rw len t.follow);
          rise = (omega arith, rise-from (suc (s.address + at)) (s.address + (at + y.size)) (each (text_function s) (stops n s ys (at + y.size))) (omega arith) t.rise);
        }

-- each function covers as many bytes as the symbol that the walk meets has
walk-covers : (o : Object) (s : Section) (f : Function) → AllBytes s.bytes → first_in (stop_refusal s) (walk_of o s) ≡ None
    → f ∈ each (text_function s) (walk_of o s) → Covers o s f
unfolding walk_of text_function function_at
walk-covers o s f b h m = let (p, n, k) = each-∈ (text_function s) f (walk_of o s) m in go p p.met n refl k
  where
    go : (p : Stop) (t : Option Symbol) → p ∈ walk_of o s → p.met ≡ t → f ∈ maybe t [] (λ y. function_at s (s.address + p.at) p.at y ∷ []) → Covers o s f
    go p None n e k = absurd k
    go p (Some y) n e (inr k) = absurd k
    go p (Some y) n e (inl q) =
        let u : stop_refusal s p ≡ None = first_in-none (stop_refusal s) p (walk_of o s) h n in
        let v : Met s p.at y = stop-accepted s p.at y (subst (λ t. stop_refusal s (record { at = p.at; met = t }) ≡ None) e u) in
        let v₁ : p.at + y.size ≤ length s.bytes = v.inside in
        let (i, a) = stop-∈ (length s.bytes) s (defined_text o s) 0 p y n e in
        let z : f.offset ≡ p.at = ap (λ g. g.offset) q in
        let c : function_code f ≡ part s.bytes p.at y.size = ap function_code q ∙ part-is s.bytes p.at y.size v₁ v.eights b in
        record {
          symbol = y;
          of = i;
          at = a ∙ ap (λ x. s.address + x) (sym z);
          listed = q ∙ (λ r. function_at s (sym a r) (sym z r) y);
          covered = ap length c ∙ length-take-le y.size (drop p.at s.bytes) (rw length-drop (omega arith));
          bytes = c ∙ ap (λ x. part s.bytes x y.size) (sym z);
        }

-- ---- from the section's functions to the catalogue's

abbrev In : SectionIndex → List Function → Type 0
In i fs = (f : Function) → f ∈ fs → f.section ≡ i

rise-∈ : (low : ℕ) (fs : List Function) (g : Function) → Rise low fs → g ∈ fs → low ≤ g.address
rise-∈ low [] g r m = absurd m
rise-∈ low (f ∷ fs) g r (inl q) = rw q r.0
rise-∈ low (f ∷ fs) g r (inr m) = let k : suc f.address ≤ g.address = rise-∈ (suc f.address) fs g r.1 m in let j : low ≤ f.address = r.0 in omega arith

rise-sorted : (i : SectionIndex) (low : ℕ) (fs : List Function) → In i fs → Rise low fs → Sorted function_key fs
rise-sorted i low [] n r = tt
rise-sorted i low (f ∷ fs) n r = (
  λ g m. let a : f.section ≡ i = n f (inl refl) in let b : g.section ≡ i = n g (inr m) in
      rw (a, b) (before-second i.0 f.address g.address (rise-∈ (suc f.address) fs g r.1 m)),
  rise-sorted i (suc f.address) fs (λ g m. n g (inr m)) r.1,
)

module _ (i : SectionIndex) where
  keep_all : (fs : List Function) → In i fs → keep (λ f. eqb i.0 f.section.0) fs ≡ fs
  unfolding keep
  keep_all [] n = refl
  keep_all (f ∷ fs) n = let e : eqb i.0 f.section.0 ≡ true = eq-eqb i.0 f.section.0 (ap (λ x. x.0) (sym (n f (inl refl)))) in rw (e, keep_all fs (λ g m. n g (inr m)))

  keep-none : (j : SectionIndex) (fs : List Function) → ((i.0 ≡ j.0) → ⊥) → In j fs → keep (λ f. eqb i.0 f.section.0) fs ≡ []
  unfolding keep
  keep-none j [] ne n = refl
  keep-none j (f ∷ fs) ne n =
      let e : eqb i.0 f.section.0 ≡ false = ne_eqb i.0 f.section.0 (λ q. ne (q ∙ ap (λ x. x.0) (n f (inl refl)))) in rw e (keep-none j fs ne (λ g m. n g (inr m)))

  keep-++ : (a b : List Function) → keep (λ f. eqb i.0 f.section.0) (a ++ b) ≡ keep (λ f. eqb i.0 f.section.0) a ++ keep (λ f. eqb i.0 f.section.0) b
  unfolding keep
  keep-++ [] b = refl
  keep-++ (f ∷ a) b = ap (push (eqb i.0 f.section.0) f) (keep-++ a b) ∙ go (eqb i.0 f.section.0)
    where
      go : (c : Bool) → push c f (keep (λ f. eqb i.0 f.section.0) a ++ keep (λ f. eqb i.0 f.section.0) b)
          ≡ push c f (keep (λ f. eqb i.0 f.section.0) a) ++ keep (λ f. eqb i.0 f.section.0) b
      go true = refl
      go false = refl

  by_key : (x y : Function) → function_key x ≡ function_key y → eqb i.0 x.section.0 ≡ eqb i.0 y.section.0
  by_key x y e = let q : x.section.0 ≡ y.section.0 = cc in ap (eqb i.0) q

-- sections of a higher index list nothing of section i
keep-above : (o : Object) (i : SectionIndex) (n : ℕ) (ss : List Section) → Rising n ss → i.0 ≤ n → keep (λ f. eqb i.0 f.section.0) (each (functions_of o) ss) ≡ []
unfolding each keep
keep-above o i n [] r h = refl
keep-above o i n (s ∷ ss) r h =
    let k : n < s.index.0 = r.0 in
    keep-++ i (functions_of o s) (each (functions_of o) ss)
    ∙ (λ j. keep-none i s.index (functions_of o s) (omega arith) (functions-section o s) j ++ keep-above o i s.index.0 ss r.1 (omega arith) j)

keep-section : (o : Object) (n : ℕ) (ss : List Section) (s : Section) → Rising n ss → s ∈ ss
    → keep (λ f. eqb s.index.0 f.section.0) (each (functions_of o) ss) ≡ functions_of o s
unfolding each
keep-section o n [] s r m = absurd m
keep-section o n (t ∷ ss) s r (inl q) =
    let e : s.index ≡ t.index = ap (λ x. x.index) q in
    keep-++ s.index (functions_of o t) (each (functions_of o) ss)
    ∙ (λ j. keep_all s.index (functions_of o t) (λ f m. functions-section o t f m ∙ sym e) j ++ keep-above o s.index t.index.0 ss r.1 (omega (arith, ap (λ x. x.0) e)) j)
    ∙ append-nil (functions_of o t) ∙ ap (functions_of o) (sym q)
keep-section o n (t ∷ ss) s r (inr m) =
    let k : t.index.0 < s.index.0 = rising-above t.index.0 ss s r.1 m in
    keep-++ s.index (functions_of o t) (each (functions_of o) ss)
    ∙ (λ j. keep-none s.index t.index (functions_of o t) (omega arith) (functions-section o t) j ++ keep-section o t.index.0 ss s r.1 m j)

text-functions : (o : Object) (s : Section) → kind_of s ≡ Kind.Text → functions_of o s ≡ each (text_function s) (walk_of o s)
unfolding functions_of
text-functions o s e = rw e

-- In an accepted object each text section's data are its listed functions joined.
pub text-is-its-functions : (o : Object) (s : Section) → Stated o → Accepted o → s ∈ o.sections → kind_of s ≡ Kind.Text
    → Joined o s (functions_in s.index (catalogue_of o))
unfolding catalogue_of walk_of
text-is-its-functions o s w h m e =
    let walk = each (text_function s) (walk_of o s) in
    let t : Tiles s.bytes 0 (s.address + 0) walk =
    walk-tiles s (defined_text o s) (length s.bytes) 0 (w.bytes s m) (omega arith) (text-accepted o s h m e) in
    let f : functions_of o s ≡ walk = text-functions o s e in
    let r : Rise s.address walk = rise-from s.address (s.address + 0) walk (omega arith) t.rise in
    let n : In s.index walk = λ g k. functions-section o s g (rw f k) in
    let q : functions_in s.index (catalogue_of o) ≡ walk =
    keep-table function_key (λ f. eqb s.index.0 f.section.0) (by_key s.index) (each (functions_of o) o.sections)
    ∙ ap (table_of function_key) (keep-section o 0 o.sections s w.rising m ∙ f)
    ∙ table-sorted function_key walk (rise-sorted s.index s.address walk n r)
    in
    rw q (record { bytes = t.joined; addresses = r; offsets = t.follow; functions = λ g k. walk-covers o s g (w.bytes s m) (text-accepted o s h m e) k })
