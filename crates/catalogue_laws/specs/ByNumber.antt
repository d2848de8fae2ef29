-- An object whose sections and symbols are given by number: the symbols of a section are those of some numbers.
use Rattle.std.specs.Prelude.{◌≡◌, Bool, ◌&&◌, ℕ, zero, suc, ◌+◌, ◌<◌, ◌≤◌, leb, None, Option, Some}
use Rattle.std.proofs.Math.Path.{refl, ap}
use Rattle.std.proofs.Common.{sym, ◌∙◌, arith}
use Rattle.std.proofs.Math.Bool.{true, false, cond}
use mathlib.Core.List.{List, [], ◌∷◌, ◌++◌, map}
use Rattle.std.proofs.Math.Dec.{eqb}
use Rattle.lists.specs.Tab.{tab}
use Rattle.model.specs.declared.Endianness.{Endianness}
use Rattle.model.specs.Bytes.{push, keep, first_in, find, or_else, maybe}
use Rattle.model.specs.Object.{Section, Symbol, Object}
use Rattle.model.specs.Symbols.{top, is_text, lies_in, symbols_of, is_program, program_symbols, defined_text, text_symbol_at}
use Rattle.model.specs.Refusals.{of_symbol, shared_refusal}
use Rattle.orders.specs.Sort.{sorted}
use Rattle.catalogue_laws.specs.Numbers.{up_to, keep-map, tab-is-map}
use Rattle.catalogue_laws.specs.Sorted.{find-sorted}
use Rattle.catalogue_laws.specs.Shared.{RisesFrom, least_again, by_address, repeat-sorted, shared-is, alike}

-- ---- numbers that rise

rises-more : (m n : ℕ) (l : List ℕ) → m ≤ n → RisesFrom n l → RisesFrom m l
rises-more m n [] h r = tt
rises-more m n (j ∷ l) h r = let p : n ≤ j = r.0 in (omega arith, r.1)

pub rises-keep : (n : ℕ) (p : ℕ → Bool) (l : List ℕ) → RisesFrom n l → RisesFrom n (keep p l)
unfolding keep
rises-keep n p [] r = tt
rises-keep n p (j ∷ l) r = go (p j) (rises-keep (suc j) p l r.1)
  where
    go : (b : Bool) → RisesFrom (suc j) (keep p l) → RisesFrom n (push b j (keep p l))
    go true h = (r.0, h)
    go false h = let q : n ≤ j = r.0 in rises-more n (suc j) (keep p l) (omega arith) h

abbrev Below : ℕ → List ℕ → Type 0
Below n [] = Unit {0}
Below n (j ∷ l) = (j < n) × Below n l

below_more : (m n : ℕ) (l : List ℕ) → m ≤ n → Below m l → Below n l
below_more m n [] h b = tt
below_more m n (j ∷ l) h b = let p : j < m = b.0 in (omega arith, below_more m n l h b.1)

below-snoc : (n k : ℕ) (l : List ℕ) → Below n l → k < n → Below n (l ++ (k ∷ []))
below-snoc n k [] b h = (h, tt)
below-snoc n k (j ∷ l) b h = (b.0, below-snoc n k l b.1 h)

rises-snoc : (m n : ℕ) (l : List ℕ) → RisesFrom m l → m ≤ n → Below n l → RisesFrom m (l ++ (n ∷ []))
rises-snoc m n [] r h b = (h, tt)
rises-snoc m n (j ∷ l) r h b = (r.0, rises-snoc (suc j) n l r.1 b.0 b.1)

up_to-below : (n : ℕ) → Below n (up_to n)
unfolding tab
up_to-below zero = tt
up_to-below (suc n) = below-snoc (suc n) n (up_to n) (below_more n (suc n) (up_to n) (omega arith) (up_to-below n)) (omega arith)

pub up_to-rises : (n : ℕ) → RisesFrom 0 (up_to n)
unfolding tab
up_to-rises zero = tt
up_to-rises (suc n) = rises-snoc 0 n (up_to n) (up_to-rises n) (omega arith) (up_to-below n)

-- ---- the symbols of a section

-- the raw number of a symbol's section, 0xFFFFFFFF where it has none
abbrev pub raw_section : Symbol → ℕ
raw_section y = maybe y.section 4294967295 (λ k. k.0)

abbrev pub is_defined_text : Symbol → Bool
is_defined_text y = is_text y.kind && y.definition

module _ (e : Endianness) (ss : List Section) (at : ℕ → Symbol) (Y : ℕ) where
  abbrev pub object_by : Object
  object_by = record { order = e; sections = ss; symbols = tab at Y }

  -- the numbers of a section's symbols, those of its programs, and those of its defined text
  unfoldable pub members : Section → List ℕ
  members s = keep (λ j. lies_in s.index (at j).section) (up_to Y)

  unfoldable pub program_members : Section → List ℕ
  program_members s = keep (λ j. is_program (at j)) (members s)

  unfoldable pub text_members : Section → List ℕ
  text_members s = keep (λ j. is_defined_text (at j)) (members s)

  pub symbols-by : (s : Section) → symbols_of object_by s ≡ map at (members s)
  unfolding symbols_of members
  symbols-by s = ap (keep (λ y. lies_in s.index y.section)) (tab-is-map at Y) ∙ keep-map (λ y. lies_in s.index y.section) at (up_to Y)

  pub programs-by : (s : Section) → program_symbols object_by s ≡ map at (program_members s)
  unfolding program_symbols program_members
  programs-by s = ap (keep is_program) (symbols-by s) ∙ keep-map is_program at (members s)

  pub text-by : (s : Section) → defined_text object_by s ≡ map at (text_members s)
  unfolding defined_text text_members
  text-by s = ap (keep is_defined_text) (symbols-by s) ∙ keep-map is_defined_text at (members s)

  pub text-rises : (s : Section) → RisesFrom 0 (text_members s)
  unfolding text_members members
  text-rises s = rises-keep 0 (λ j. is_defined_text (at j)) (keep (λ j. lies_in s.index (at j).section) (up_to Y)) (rises-keep 0 (λ j. lies_in s.index (at j).section) (up_to Y) (up_to-rises Y))

  -- the defined text of a section in order of address
  unfoldable pub text_order : Section → List ℕ
  text_order s = sorted (by_address (λ j. (at j).address)) (text_members s)

  -- number 11
  pub shared-by : (s : Section) → shared_refusal s [] (defined_text object_by s) ≡ maybe (least_again (λ j. (at j).address) (text_order s)) None (λ j. of_symbol 11 s (at j) true)
  unfolding text_order
  shared-by s =
      ap (shared_refusal s []) (text-by s)
      ∙ shared-is s at [] (text_members s)
      ∙ ap (λ r. maybe r None (λ j. of_symbol 11 s (at j) true)) (repeat-sorted (λ j. (at j).address) 0 (text_members s) (text-rises s))

  -- the symbol at a text address, by number
  abbrev pub number_at : Section → ℕ → Option ℕ
  number_at s a = find (λ j. eqb (at j).address a) (text_order s)

  find-map : (p : Symbol → Bool) (l : List ℕ) → find p (map at l) ≡ maybe (find (λ j. p (at j)) l) None (λ j. Some (at j))
  unfolding find first_in
  find-map p [] = refl
  find-map p (j ∷ l) = go (p (at j)) (find-map p l)
    where
      go : (b : Bool) → first_in (λ y. cond (p y) (Some y) None) (map at l) ≡ maybe (first_in (λ i. cond (p (at i)) (Some i) None) l) None (λ i. Some (at i))
          → or_else (cond b (Some (at j)) None) (first_in (λ y. cond (p y) (Some y) None) (map at l))
          ≡ maybe (or_else (cond b (Some j) None) (first_in (λ i. cond (p (at i)) (Some i) None) l)) None (λ i. Some (at i))
      go true h = refl
      go false h = h

  pub symbol-at-by : (s : Section) (o : ℕ) → text_symbol_at s (defined_text object_by s) o ≡ cond (leb (s.address + o) top) (maybe (number_at s (s.address + o)) None (λ j. Some (at j))) None
  unfolding text_symbol_at text_order
  symbol-at-by s o =
      ap (λ f. cond (leb (s.address + o) top) f None)
      (ap (find (λ y. eqb y.address (s.address + o))) (text-by s)
      ∙ find-map (λ y. eqb y.address (s.address + o)) (text_members s)
      ∙ ap (λ r. maybe r None (λ j. Some (at j)))
      (sym (find-sorted (by_address (λ j. (at j).address)) (λ j. eqb (at j).address (s.address + o)) (alike (λ j. (at j).address) (s.address + o)) (text_members s))))
