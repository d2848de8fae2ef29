-- Rows of zeros in the function table as numbers.
use Rattle.std.specs.Prelude.{◌≡◌, refl, ℕ, zero, suc, ◌+◌, ◌-◌, ◌*◌, replicate}
use Rattle.std.proofs.Common.{ap, sym, ◌∙◌, arith}
use Rattle.std.proofs.lemmas.List.{length-replicate, replicate-append-replicate}
use Rattle.model.specs.Bytes.{each}
use Rattle.model.specs.FunctionNumbers.{flat_rows, rows_in}
use Rattle.model.specs.Lent.{filled, zero_row}

zeros-each : (m : ℕ) → flat_rows (replicate m zero_row) ≡ replicate (m * 7) 0
unfolding flat_rows each
zeros-each zero = refl
zeros-each (suc m) = let e : suc m * 7 ≡ suc (suc (suc (suc (suc (suc (suc (m * 7))))))) = omega arith in rw (zeros-each m, e) refl

-- numbers that are all 0 are those of rows of zeros
pub zeros_flat : (n : ℕ) → replicate n 0 ≡ filled 0 n (flat_rows (replicate (rows_in n) zero_row))
zeros_flat n =
    let m : ℕ = rows_in n * 7 in
    let e : m + (n - m) ≡ n = omega arith in
    rw (zeros-each (rows_in n), length-replicate {A = ℕ} m 0) (ap (λ (k : ℕ). replicate {A = ℕ} k 0) (sym e) ∙ sym (replicate-append-replicate {A = ℕ} m (n - m) 0))
