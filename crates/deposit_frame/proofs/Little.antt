-- Four bytes as one number, the lowest first.
use Rattle.std.proofs.Common.{◌≡◌, ℕ, ◌+◌, ◌*◌, List, [], ◌∷◌, length, get_or, arith}
use Rattle.model.specs.Bytes.{little}

pub little_four : (b : List ℕ) → length b ≡ 4 → little b ≡ get_or b 0 0 + get_or b 1 0 * 256 + get_or b 2 0 * 65536 + get_or b 3 0 * 16777216
unfolding little
little_four [] h = absurd (omega arith)
little_four (x ∷ []) h = absurd (omega arith)
little_four (x ∷ y ∷ []) h = absurd (omega arith)
little_four (x ∷ y ∷ z ∷ []) h = absurd (omega arith)
little_four (x ∷ y ∷ z ∷ w ∷ []) h = omega arith
little_four (x ∷ y ∷ z ∷ w ∷ v ∷ b) h = absurd (omega arith)
