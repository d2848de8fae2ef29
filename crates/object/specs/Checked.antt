-- What a check answers, by the refusal that the definitions give.
use Rattle.std.specs.Prelude.{◌≡◌, refl, List, drop, ℕ, suc, ◌+◌, ◌<◌, ◌≤◌, length, get_or, Err, None, Ok, Option, Result, Some, ⊤}
use Rattle.std.specs.Result.{result_and}
use Rattle.std.proofs.Common.{add-one, drop-cons}
use Rattle.std.proofs.lemmas.List.{drop_all}
use Rattle.model.specs.declared.Refusal.{Refusal}
use Rattle.model.specs.Bytes.{first_in, or_else}

abbrev pub checked_of : Option Refusal → Result ⊤ Refusal
checked_of None = (Ok tt)
checked_of (Some r) = Err r

-- ---- of the first refusal in a list, by its rest from i on

pub checked_step : (g : ℕ → Option Refusal) (l : List ℕ) (i : ℕ) → i < length l
    → checked_of (first_in g (drop i l)) ≡ result_and (checked_of (g (get_or l i 0))) (checked_of (first_in g (drop (i + 1) l)))
unfolding first_in
checked_step g l i h = rw (add-one, drop-cons l i 0) (go (g (get_or l i 0)))
  where
    go : (o : Option Refusal) → checked_of (or_else o (first_in g (drop (suc i) l))) ≡ result_and (checked_of o) (checked_of (first_in g (drop (suc i) l)))
    go None = refl
    go (Some r) = refl

pub checked_end : (g : ℕ → Option Refusal) (l : List ℕ) (i : ℕ) → length l ≤ i → checked_of (first_in g (drop i l)) ≡ Ok tt
unfolding first_in
checked_end g l i h = rw (drop_all i l h)
