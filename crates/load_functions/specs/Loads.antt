-- What the load call answers, and what each lent list holds at the end.
use Rattle.model.specs.declared.Summary.{Summary}
use Rattle.model.specs.declared.Refusal.{Refusal}
use Rattle.std.specs.Prelude.{◌≡◌, List, ℕ, Result}
use Rattle.model.specs.declared.Function.{Function}
use Rattle.model.specs.Lent.{lent, Outcome, outcome}

-- the equation of the contracts
abbrev pub Loads : Outcome → (Result Summary Refusal) → List ℕ → List ℕ → List Function → List ℕ → List ℕ → List ℕ → Type 0
Loads o r s p f m l b = outcome r (lent s p f m l b) ≡ o
