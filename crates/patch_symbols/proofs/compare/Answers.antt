-- `patch_symbols::compare` meets its contract: the lengths come first, and where they are the same the bytes.
use Rattle.std.proofs.Common.{◌≡◌, ℕ, ◌<◌, List, ◌∷◌, refl, sym, ◌∙◌}
use Rattle.std.specs.Ordering.{MatchOrdering}
use Rattle.std.specs.declared.cmp.Ordering.{Ordering}
use Rattle.std.proofs.lemmas.Cmp.{ranked}
use Rattle.orders.specs.Compare.{ordering, ordering-below, ordering-above, ordering-same}
use Rattle.patch_symbols.proofs.compare.Goals as goal

pub returns-in-Equal : goal.returns-in-Equal
returns-in-Equal c =
    rw (← c.symbol_name.ensures, ← c.name-name.ensures.bytes, ← c.name-name.ensures.len)
    (c.compare_with.ensures ∙ sym (ordering-same _ _ _ _ (ranked _ _ Ordering.Equal (sym c.in-Equal.is ∙ c.cmp.ensures))))

by-lengths : (x y : ℕ) (xs ys : List ℕ) (o : Ordering) → MatchOrdering o (x < y) (x ≡ y) (y < x) → (o ≡ Ordering.Equal → ⊥) → o ≡ ordering (x ∷ xs) (y ∷ ys)
by-lengths x y xs ys Ordering.Less m n = sym (ordering-below x y xs ys m)
by-lengths x y xs ys Ordering.Equal m n = absurd (n refl)
by-lengths x y xs ys Ordering.Greater m n = sym (ordering-above x y xs ys m)

pub returns-in_default : goal.returns-in_default
returns-in_default c =
    rw (← c.symbol_name.ensures, ← c.name-name.ensures.len) (by-lengths _ _ _ _ _ (ranked _ _ _ c.cmp.ensures) c.in_default.not-Equal)
