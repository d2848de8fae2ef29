-- A search that only moves forward: among numbers that climb in address, those behind the place it stands at lie below every address still looked for.
use Rattle.std.specs.Prelude.{◌≡◌, refl, List, [], ◌∷◌, ℕ, ◌<◌, ◌≤◌, None, Some}
use Rattle.std.proofs.Common.{◌∙◌, arith, eq-eqb, ne_eqb}
use Rattle.model.specs.Bytes.{first_in, find}
use Rattle.catalogue_laws.specs.Shared.{Climbs, first_at, none_below}

module _ (addr : ℕ → ℕ) where
  climbs-from : (m n : ℕ) (l : List ℕ) → m ≤ n → Climbs addr n l → Climbs addr m l
  climbs-from m n [] h c = tt
  climbs-from m n (j ∷ l) h c = let p : n ≤ addr j = c.0 in (omega arith, c.1)

  module _ (all : List ℕ) where
    -- from the address a on, what is found in the whole list is found in what is left of it
    pub record Ahead (a : ℕ) (left : List ℕ) : Type 0 where
      pub climbs : Climbs addr 0 left
      pub found : (x : ℕ) → a ≤ x → first_at addr x all ≡ first_at addr x left

    pub ahead-start : (a : ℕ) → Climbs addr 0 all → Ahead a all
    ahead-start a c = record { climbs = c; found = λ x h. refl }

    apart : (j x : ℕ) (l : List ℕ) → (addr j ≡ x → ⊥) → first_at addr x (j ∷ l) ≡ first_at addr x l
    unfolding find first_in
    apart j x l n = rw (ne_eqb (addr j) x n)

    here : (j x : ℕ) (l : List ℕ) → addr j ≡ x → first_at addr x (j ∷ l) ≡ Some j
    unfolding find first_in
    here j x l e = rw (eq-eqb (addr j) x e)

    behind : (a b j : ℕ) (l : List ℕ) → a ≤ b → addr j < b → Ahead a (j ∷ l) → Ahead b l
    behind a b j l h k g =
        record {
          climbs = climbs-from 0 (addr j) l (omega arith) g.climbs.1;
          found = λ x q. g.found x (omega arith) ∙ apart j x l (λ e. omega arith);
        }

    -- a number below the address
    pub ahead-below : (a j : ℕ) (l : List ℕ) → addr j < a → Ahead a (j ∷ l) → Ahead a l
    ahead-below a j l k g = behind a a j l (omega arith) k g

    -- the number at the address, and what is ahead of the next one
    pub ahead-met : (a j : ℕ) (l : List ℕ) → addr j ≡ a → Ahead a (j ∷ l) → first_at addr a all ≡ Some j
    ahead-met a j l e g = g.found a (omega arith) ∙ here j a l e

    pub ahead_past : (a b j : ℕ) (l : List ℕ) → addr j ≡ a → a < b → Ahead a (j ∷ l) → Ahead b l
    ahead_past a b j l e k g = behind a b j l (omega arith) (omega arith) g

    -- a number above the address, or no number
    pub ahead-lost : (a j : ℕ) (l : List ℕ) → a < addr j → Ahead a (j ∷ l) → first_at addr a all ≡ None
    ahead-lost a j l k g =
        g.found a (omega arith) ∙ none_below addr a (addr j) (j ∷ l) (omega arith, g.climbs.1) k

    pub ahead_none : (a : ℕ) → Ahead a [] → first_at addr a all ≡ None
    unfolding find first_in
    ahead_none a g = g.found a (omega arith)
