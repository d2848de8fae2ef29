-- The walk of a text section by number: what is refused at a text address, and which symbols are met.
use Rattle.std.specs.Prelude.{◌≡◌, Bool, eqb, leb, ltb, length, None, Option, Some}
use Rattle.std.proofs.Math.Path.{refl, ap}
use Rattle.std.proofs.Common.{sym, ◌∙◌, lt-ltb, le-ltb, eqb-true}
use Rattle.std.proofs.Math.Bool.{true, false, cond}
use mathlib.Core.List.{List, [], ◌∷◌, map}
use Prim.Native.Nat.{ℕ, zero, suc, ◌+◌, ◌-◌, ◌<◌, ◌≤◌}
use native.Mathlib.Omega.{arith}
use Rattle.lists.specs.Tests.{not_some}
use Rattle.model.specs.declared.Endianness.{Endianness}
use Rattle.model.specs.declared.Refusal.{Refusal}
use Rattle.model.specs.Bytes.{first_in, find, or_else, maybe, each}
use Rattle.model.specs.Object.{Section, Symbol, Object}
use Rattle.model.specs.Symbols.{top, defined_text, text_symbol_at, stops}
use Rattle.model.specs.Catalogue.{Function}
use Rattle.model.specs.Contents.{function_at, text_function}
use Rattle.model.specs.Refusals.{of_section, stop_refusal}
use Rattle.catalogue_laws.specs.ByNumber.{object_by, number_at, symbol-at-by}

module _ (e : Endianness) (ss : List Section) (at : ℕ → Symbol) (Y : ℕ) (s : Section) where
  abbrev the : Object
  the = object_by e ss at Y

  -- the number of the defined text symbol at an offset of the data
  abbrev pub number_in : ℕ → Option ℕ
  number_in o = cond (leb (s.address + o) top) (number_at e ss at Y s (s.address + o)) None

  symbol-in : (o : ℕ) → text_symbol_at s (defined_text the s) o ≡ maybe (number_in o) None (λ j. Some (at j))
  symbol-in o = symbol-at-by e ss at Y s o ∙ go (leb (s.address + o) top)
    where
      go : (b : Bool) → cond b (maybe (number_at e ss at Y s (s.address + o)) None (λ j. Some (at j))) None
          ≡ maybe (cond b (number_at e ss at Y s (s.address + o)) None) None (λ j. Some (at j))
      go true = refl
      go false = refl

  -- what the walk is refused with from an offset on
  unfoldable pub walk_refusal : ℕ → ℕ → Option Refusal
  walk_refusal n o = first_in (stop_refusal s) (stops n s (defined_text the s) o)

  -- the data are used up
  pub walk_end : (n o : ℕ) → length s.bytes ≤ o → walk_refusal n o ≡ None
  unfolding walk_refusal stops first_in
  walk_end zero o h = refl
  walk_end (suc n) o h = rw (le-ltb o (length s.bytes) h)

  -- '12. The next text address passes 2^64 - 1 or has no defined text symbol.'
  pub walk-lost : (n o : ℕ) → o < length s.bytes → number_in o ≡ None → walk_refusal (suc n) o ≡ of_section 12 s true
  unfolding walk_refusal stops first_in stop_refusal
  walk-lost n o h q = let m : text_symbol_at s (defined_text the s) o ≡ None = symbol-in o ∙ rw q in rw (lt-ltb o (length s.bytes) h, m)

  -- 13 to 15 at the symbol met, then the rest of the walk
  pub walk-met : (n o j : ℕ) → o < length s.bytes → number_in o ≡ Some j
      → walk_refusal (suc n) o ≡ or_else (stop_refusal s (record { at = o; met = Some (at j) })) (walk_refusal n (o + (at j).size))
  unfolding walk_refusal stops first_in
  walk-met n o j h q = let m : text_symbol_at s (defined_text the s) o ≡ Some (at j) = symbol-in o ∙ rw q in rw (lt-ltb o (length s.bytes) h, m)

  -- the numbers of the symbols met
  unfoldable pub walk_numbers : ℕ → ℕ → List ℕ
  walk_numbers zero o = []
  walk_numbers (suc n) o = cond (ltb o (length s.bytes)) (maybe (number_in o) [] (λ j. j ∷ walk_numbers n (o + (at j).size))) []

  pub numbers-end : (n o : ℕ) → length s.bytes ≤ o → walk_numbers n o ≡ []
  unfolding walk_numbers
  numbers-end zero o h = refl
  numbers-end (suc n) o h = rw (le-ltb o (length s.bytes) h)

  pub numbers-met : (n o j : ℕ) → o < length s.bytes → number_in o ≡ Some j → walk_numbers (suc n) o ≡ j ∷ walk_numbers n (o + (at j).size)
  unfolding walk_numbers
  numbers-met n o j h q = rw (lt-ltb o (length s.bytes) h, q)

  -- the function of a symbol that is met
  unfoldable pub text_function_of : ℕ → Function
  text_function_of j = function_at s (at j).address ((at j).address - s.address) (at j)

  found_at : (p : ℕ → Bool) (l : List ℕ) (j : ℕ) → find p l ≡ Some j → p j ≡ true
  unfolding find first_in
  found_at p [] j h = not_some j (sym h)
  found_at p (i ∷ l) j h = go (p i) refl h (found_at p l j)
    where
      go : (b : Bool) → p i ≡ b → or_else (cond b (Some i) None) (first_in (λ x. cond (p x) (Some x) None) l) ≡ Some j
          → (first_in (λ x. cond (p x) (Some x) None) l ≡ Some j → p j ≡ true) → p j ≡ true
      go true f q r = let k : i ≡ j = cc in ap p (sym k) ∙ f
      go false f q r = r q

  -- a symbol that is met stands at the address it is met at
  pub met-address : (o j : ℕ) → number_in o ≡ Some j → (at j).address ≡ s.address + o
  met-address o j h = go (leb (s.address + o) top) h
    where
      go : (b : Bool) → cond b (number_at e ss at Y s (s.address + o)) None ≡ Some j → (at j).address ≡ s.address + o
      go true q = eqb-true _ _ (found_at (λ i. eqb (at i).address (s.address + o)) _ j q)
      go false q = not_some j (sym q)

  pub functions-met : (n o : ℕ) → each (text_function s) (stops n s (defined_text the s) o) ≡ map text_function_of (walk_numbers n o)
  unfolding walk_numbers stops each text_function text_function_of
  functions-met zero o = refl
  functions-met (suc n) o = go (ltb o (length s.bytes)) (number_in o) (text_symbol_at s (defined_text the s) o) refl (symbol-in o) (λ j. functions-met n (o + (at j).size))
    where
      one : (j : ℕ) → number_in o ≡ Some j → function_at s (s.address + o) o (at j) ≡ function_at s (at j).address ((at j).address - s.address) (at j)
      one j q =
          let a : (at j).address ≡ s.address + o = met-address o j q in
          let b : (at j).address - s.address ≡ o = omega arith in
          λ k. function_at s (sym a k) (sym b k) (at j)

      go : (b : Bool) (q : Option ℕ) (y : Option Symbol) → number_in o ≡ q → y ≡ maybe q None (λ j. Some (at j))
          → ((j : ℕ) → each (text_function s) (stops n s (defined_text the s) (o + (at j).size)) ≡ map text_function_of (walk_numbers n (o + (at j).size)))
          → each (text_function s) (cond b (record { at = o; met = y } ∷ maybe y [] (λ z. stops n s (defined_text the s) (o + z.size))) [])
          ≡ map text_function_of (cond b (maybe q [] (λ j. j ∷ walk_numbers n (o + (at j).size))) [])
      go false q y f h r = refl
      go true None y f h r = rw h
      go true (Some j) y f h r = rw h (λ k. one j f k ∷ r j k)
