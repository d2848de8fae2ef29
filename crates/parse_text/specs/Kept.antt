-- The numbers that the walk of a text section keeps: those met before it ends or is refused.
use Rattle.std.proofs.Math.Path.{◌≡◌, refl, sym, ap}
use Rattle.std.proofs.Common.{◌∙◌, lt-ltb, le-ltb, ltb-true, ltb-false}
use Rattle.std.specs.Prelude.{Bool, cond, ltb, None, Option, Some}
use Rattle.std.proofs.Math.Bool.{true, false}
use mathlib.Core.List.{List, [], ◌∷◌}
use Prim.Native.Nat.{ℕ, zero, suc, ◌+◌, ◌<◌, ◌≤◌}
use Rattle.std.proofs.Math.ListN.{length}
use Rattle.lists.specs.Tests.{not_some}
use Rattle.model.specs.declared.Endianness.{Endianness}
use Rattle.model.specs.declared.Refusal.{Refusal}
use Rattle.model.specs.Bytes.{first_in, or_else, maybe}
use Rattle.model.specs.Object.{Section, Symbol}
use Rattle.model.specs.Symbols.{defined_text, stops, walk_of}
use Rattle.model.specs.Refusals.{of_symbol, shared_refusal, stop_refusal, text_refusal}
use Rattle.catalogue_laws.specs.ByNumber.{object_by, text_order, shared-by}
use Rattle.catalogue_laws.specs.Shared.{least_again}
use Rattle.catalogue_laws.specs.Walk.{number_in, walk_refusal, walk_numbers, walk-met, numbers-end, numbers-met}

module _ (e : Endianness) (ss : List Section) (at : ℕ → Symbol) (Y : ℕ) (s : Section) where
  -- 13 to 15 at an offset, of the symbol of a number
  abbrev pub refusal_at : ℕ → ℕ → Option Refusal
  refusal_at o j = stop_refusal s (record { at = o; met = Some (at j) })

  unfoldable pub kept_numbers : ℕ → ℕ → List ℕ
  kept_numbers zero o = []
  kept_numbers (suc n) o =
      cond (ltb o (length s.bytes))
      (maybe (number_in e ss at Y s o) [] (λ j. maybe (refusal_at o j) (j ∷ kept_numbers n (o + (at j).size)) (λ r. [])))
      []

  pub kept-end : (n o : ℕ) → length s.bytes ≤ o → kept_numbers n o ≡ []
  unfolding kept_numbers
  kept-end zero o h = refl
  kept-end (suc n) o h = rw (le-ltb o (length s.bytes) h)

  pub kept-lost : (n o : ℕ) → number_in e ss at Y s o ≡ None → kept_numbers n o ≡ []
  unfolding kept_numbers
  kept-lost zero o q = refl
  kept-lost (suc n) o q = rw q (go (ltb o (length s.bytes)))
    where
      go : (b : Bool) → ◌≡◌ {A = List ℕ} (cond b [] []) []
      go true = refl
      go false = refl

  pub kept-refused : (n o j : ℕ) (r : Refusal) → number_in e ss at Y s o ≡ Some j → refusal_at o j ≡ Some r → kept_numbers n o ≡ []
  unfolding kept_numbers
  kept-refused zero o j r q f = refl
  kept-refused (suc n) o j r q f = rw (q, f) (go (ltb o (length s.bytes)))
    where
      go : (b : Bool) → ◌≡◌ {A = List ℕ} (cond b [] []) []
      go true = refl
      go false = refl

  pub kept-met : (n o j : ℕ) → o < length s.bytes → number_in e ss at Y s o ≡ Some j → refusal_at o j ≡ None
      → kept_numbers (suc n) o ≡ j ∷ kept_numbers n (o + (at j).size)
  unfolding kept_numbers
  kept-met n o j h q f = rw (lt-ltb o (length s.bytes) h, q, f)

  -- an accepted walk keeps every number that it meets
  pub kept-all : (n o : ℕ) → walk_refusal e ss at Y s n o ≡ None → kept_numbers n o ≡ walk_numbers e ss at Y s n o
  unfolding kept_numbers walk_numbers
  kept-all zero o h = refl
  kept-all (suc n) o h = go (ltb o (length s.bytes)) (number_in e ss at Y s o) refl refl (λ j. kept-all n (o + (at j).size))
    where
      one : (j : ℕ) (f : Option Refusal) → o < length s.bytes → number_in e ss at Y s o ≡ Some j → refusal_at o j ≡ f
          → or_else f (walk_refusal e ss at Y s n (o + (at j).size)) ≡ None
          → (walk_refusal e ss at Y s n (o + (at j).size) ≡ None → kept_numbers n (o + (at j).size) ≡ walk_numbers e ss at Y s n (o + (at j).size))
          → kept_numbers (suc n) o ≡ walk_numbers e ss at Y s (suc n) o
      one j None l q g r k = kept-met n o j l q g ∙ ap (λ m. j ∷ m) (k r) ∙ sym (numbers-met e ss at Y s n o j l q)
      one j (Some x) l q g r k = not_some x r

      go : (b : Bool) (q : Option ℕ) → ltb o (length s.bytes) ≡ b → number_in e ss at Y s o ≡ q
          → ((j : ℕ) → walk_refusal e ss at Y s n (o + (at j).size) ≡ None → kept_numbers n (o + (at j).size) ≡ walk_numbers e ss at Y s n (o + (at j).size))
          → kept_numbers (suc n) o ≡ walk_numbers e ss at Y s (suc n) o
      go false q l f k = let p : length s.bytes ≤ o = ltb-false _ _ l in kept-end (suc n) o p ∙ sym (numbers-end e ss at Y s (suc n) o p)
      go true None l f k = rw (l, f)
      go true (Some j) l f k =
          let p : o < length s.bytes = ltb-true _ _ l in
          one j (refusal_at o j) p f refl (sym (walk-met e ss at Y s n o j p f) ∙ h) (k j)

  -- 'Two defined text symbols of a text section share an address': then nothing is kept
  unfoldable pub text_numbers : List ℕ
  text_numbers = maybe (shared_refusal s [] (defined_text (object_by e ss at Y) s)) (kept_numbers (length s.bytes) 0) (λ r. [])

  -- '11 precedes the walk of a text section.'
  pub text-by-walk : text_refusal (object_by e ss at Y) s
      ≡ or_else (maybe (least_again (λ j. (at j).address) (text_order e ss at Y s)) None (λ j. of_symbol 11 s (at j) true)) (walk_refusal e ss at Y s (length s.bytes) 0)
  unfolding text_refusal walk_of walk_refusal
  text-by-walk = ap (λ r. or_else r (first_in (stop_refusal s) (stops (length s.bytes) s (defined_text (object_by e ss at Y) s) 0))) (shared-by e ss at Y s)

  pub numbers-by-walk : text_numbers ≡ maybe (least_again (λ j. (at j).address) (text_order e ss at Y s)) (kept_numbers (length s.bytes) 0) (λ j. [])
  unfolding text_numbers
  numbers-by-walk = rw (shared-by e ss at Y s) (go (least_again (λ j. (at j).address) (text_order e ss at Y s)))
    where
      go : (o : Option ℕ) → maybe (maybe o None (λ j. of_symbol 11 s (at j) true)) (kept_numbers (length s.bytes) 0) (λ r. [])
          ≡ maybe o (kept_numbers (length s.bytes) 0) (λ j. [])
      go None = refl
      go (Some j) = refl

  -- the numbers of an accepted text section are those of its walk
  pub numbers-accepted : text_refusal (object_by e ss at Y) s ≡ None → text_numbers ≡ walk_numbers e ss at Y s (length s.bytes) 0
  unfolding text_numbers text_refusal walk_of walk_refusal
  numbers-accepted h = go (shared_refusal s [] (defined_text (object_by e ss at Y) s)) h
    where
      go : (f : Option Refusal) → or_else f (first_in (stop_refusal s) (stops (length s.bytes) s (defined_text (object_by e ss at Y) s) 0)) ≡ None
          → maybe f (kept_numbers (length s.bytes) 0) (λ r. []) ≡ walk_numbers e ss at Y s (length s.bytes) 0
      go None q = kept-all (length s.bytes) 0 q
      go (Some r) q = not_some r q
