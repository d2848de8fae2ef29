-- A table whose front is stored, and whose rest is cleared.
use Rattle.std.specs.Prelude.{◌≡◌, List, ◌++◌, ℕ, ◌-◌, ◌≤◌, length, take, drop, replicate}
use Rattle.std.proofs.Common.{◌∙◌, ap, arith, le_refl, append-nil, length-append, length-drop, drop_of_length-le, take_at, take_all}
use Rattle.model.specs.Lent.{filled}

-- x lies in front; what is behind it is lent, and comes back as zeros
pub filled-behind : (x t out ys : List ℕ) (n : ℕ) → length x ≡ n → n ≤ length t → out ≡ x ++ drop n t → ys ≡ replicate (length (take (length out - n) (drop n out))) 0
    → take n out ++ (ys ++ drop (length out - n) (drop n out)) ≡ filled 0 (length t) x
filled-behind x t out ys n e h f g =
    let l : length out ≡ length t = ap length f ∙ rw (length-append, length-drop, e) (omega arith) in
    let front : take n out ≡ x = ap (take n) f ∙ take_at x (drop n t) n e in
    let short : length (drop n out) ≤ length out - n = rw length-drop (le_refl (length out - n)) in
    rw (drop_of_length-le (drop n out) short, append-nil, front, g, take_all (length out - n) (drop n out) short, length-drop, l, ← e)
