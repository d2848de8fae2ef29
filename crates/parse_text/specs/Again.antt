-- Number 11 by one pass: the least number so far that has the address of the one before it, and the address to compare with.
use Rattle.std.specs.Prelude.{◌≡◌, Bool, cond, eqb, nat_eq, None, Option, Some}
use Rattle.std.proofs.Math.Path.{refl}
use Rattle.std.proofs.Common.{sym, ap, ◌∙◌}
use Rattle.std.proofs.Math.Bool.{true, false}
use mathlib.Core.List.{List, [], ◌∷◌}
use Prim.Native.Nat.{ℕ}
use Rattle.std.specs.Option.{option_eq}
use Rattle.object_view.specs.declared.View.{View}
use Rattle.model.specs.declared.SymbolRecord.{SymbolRecord}
use Rattle.catalogue_laws.specs.Shared.{earlier, earlier-join, least_again}
use Rattle.records.specs.View.{symbol_at}
use Rattle.object.specs.View.{defined_record, symbol_from, text-by-record}
use Rattle.parse_text.specs.declared.Again.{Again}
use Rattle.parse_text.specs.Group.{address_in, text_group, group-text, group-other}

-- whether an address was seen and is x
abbrev pub repeats : Option ℕ → ℕ → Bool
repeats None x = false
repeats (Some w) x = eqb w x

abbrev pub nothing_yet : Again
nothing_yet = record { address = None; least = None }

-- one defined text symbol more
abbrev pub again : Again → ℕ → ℕ → Again
again a j x = record { address = Some x; least = cond (repeats a.address x) (earlier a.least (Some j)) a.least }

-- one symbol more
unfoldable pub again_next : Again → ℕ → SymbolRecord → Again
again_next a j y = cond (defined_record y) (again a j y.address) a

-- std's test of the address
test-is : (o : Option ℕ) (x : ℕ) → option_eq nat_eq o (Some x) ≡ repeats o x
test-is None x = refl
test-is (Some w) x = refl

module _ (a : Again) (j : ℕ) (y : SymbolRecord) where
  abbrev with : Option ℕ → Again
  with least = record { address = Some y.address; least = least }

  pub next-other : defined_record y ≡ false → a ≡ again_next a j y
  unfolding again_next
  next-other e = rw e

  pub next-again : defined_record y ≡ true → option_eq nat_eq a.address (Some y.address) ≡ true → with (earlier a.least (Some j)) ≡ again_next a j y
  unfolding again_next
  next-again e s = rw (e, sym (test-is a.address y.address) ∙ s)

  pub next-apart : defined_record y ≡ true → option_eq nat_eq a.address (Some y.address) ≡ false → with a.least ≡ again_next a j y
  unfolding again_next
  next-apart e s = rw (e, sym (test-is a.address y.address) ∙ s)

module _ (addr : ℕ → ℕ) where
  -- the least to have the address of the one before it, where x is before the first
  abbrev after : Option ℕ → List ℕ → Option ℕ
  after None l = least_again addr l
  after (Some x) [] = None
  after (Some x) (j ∷ l) = earlier (cond (eqb x (addr j)) (Some j) None) (least_again addr (j ∷ l))

  -- what the pass answers in the end, with l before it
  unfoldable pub conflict_answer : Again → List ℕ → Option ℕ
  conflict_answer a l = earlier a.least (after a.address l)

  pub answer-first : (l : List ℕ) → least_again addr l ≡ conflict_answer nothing_yet l
  unfolding conflict_answer
  answer-first l = refl

  pub answer-end : (a : Again) → conflict_answer a [] ≡ a.least
  unfolding conflict_answer least_again
  answer-end a = go a.address a.least
    where
      go : (o s : Option ℕ) → earlier s (after o []) ≡ s
      go (Some x) None = refl
      go (Some x) (Some j) = refl
      go None None = refl
      go None (Some j) = refl

  first-after : (j : ℕ) (l : List ℕ) → least_again addr (j ∷ l) ≡ after (Some (addr j)) l
  unfolding least_again
  first-after j [] = refl
  first-after j (i ∷ l) = refl

  answer-again : (a : Again) (j : ℕ) (l : List ℕ) → conflict_answer a (j ∷ l) ≡ conflict_answer (again a j (addr j)) l
  unfolding conflict_answer
  answer-again a j l = go a.address
    where
      n : Option ℕ
      n = a.least

      step : (c : Bool) → earlier n (earlier (cond c (Some j) None) (least_again addr (j ∷ l))) ≡ earlier (cond c (earlier n (Some j)) n) (after (Some (addr j)) l)
      step false = ap (earlier n) (first-after j l)
      step true = ap (λ (o : Option ℕ). earlier n (earlier (Some j) o)) (first-after j l) ∙ sym (earlier-join n (Some j) (after (Some (addr j)) l))

      go : (o : Option ℕ) → earlier n (after o (j ∷ l)) ≡ earlier (cond (repeats o (addr j)) (earlier n (Some j)) n) (after (Some (addr j)) l)
      go None = ap (earlier n) (first-after j l)
      go (Some x) = step (eqb x (addr j))

-- a symbol in front
pub answer-next : (d t : List ℕ) (v : View) (a : Again) (j : ℕ) (group : List ℕ)
    → conflict_answer (address_in d t v) a (text_group d t v (j ∷ group))
    ≡ conflict_answer (address_in d t v) (again_next a j (symbol_at d t v j)) (text_group d t v group)
unfolding again_next symbol_from
answer-next d t v a j group = go (defined_record y) refl
  where
    y : SymbolRecord
    y = symbol_at d t v j

    go : (b : Bool) → defined_record y ≡ b
        → conflict_answer (address_in d t v) a (text_group d t v (j ∷ group))
        ≡ conflict_answer (address_in d t v) (cond b (again a j y.address) a) (text_group d t v group)
    go true e = ap (conflict_answer (address_in d t v) a) (group-text d t v j group (text-by-record d t v y ∙ e)) ∙ answer-again (address_in d t v) a j (text_group d t v group)
    go false e = ap (conflict_answer (address_in d t v) a) (group-other d t v j group (text-by-record d t v y ∙ e))
