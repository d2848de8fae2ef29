-- `rows_functions::compare` meets its contract: by how the sections stand, then the addresses.
use Rattle.std.specs.Prelude.{◌≡◌, [], ◌∷◌, ℕ, ◌<◌}
use Rattle.std.proofs.Common.{sym, ◌∙◌}
use Rattle.std.specs.declared.cmp.Ordering.{Ordering}
use Rattle.std.specs.Ordering.{nat_cmp, ordering_then, MatchOrdering}
use Rattle.std.specs.Cmp.{ranks}
use Rattle.orders.specs.Compare.{ordering, both_end, ordering-below, ordering-above, ordering-same}
use Rattle.rows_functions.proofs.compare.Goals as goal

pairs : (a b x y : ℕ) → ordering_then (nat_cmp a b) (nat_cmp x y) ≡ ordering (a ∷ x ∷ []) (b ∷ y ∷ [])
pairs a b x y = go (nat_cmp a b) (nat_cmp x y) (ranks a b) (ranks x y)
  where
    go : (p q : Ordering) → MatchOrdering p (a < b) (a ≡ b) (b < a) → MatchOrdering q (x < y) (x ≡ y) (y < x) → ordering_then p q ≡ ordering (a ∷ x ∷ []) (b ∷ y ∷ [])
    go Ordering.Less q h k = sym (ordering-below _ _ _ _ h)
    go Ordering.Greater q h k = sym (ordering-above _ _ _ _ h)
    go Ordering.Equal Ordering.Less h k = sym (ordering-same _ _ _ _ h ∙ ordering-below _ _ _ _ k)
    go Ordering.Equal Ordering.Equal h k = sym (ordering-same _ _ _ _ h ∙ ordering-same _ _ _ _ k ∙ both_end)
    go Ordering.Equal Ordering.Greater h k = sym (ordering-same _ _ _ _ h ∙ ordering-above _ _ _ _ k)

pub returns : goal.returns
returns c =
    let a = c.args in
    c.then.ensures ∙ rw (c.cmp.ensures, c.cmp-2.ensures) (pairs a.f.section.0 a.section.0 a.f.address a.address)
