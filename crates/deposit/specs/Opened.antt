-- What opening a deposit answers: why it goes back, or its records, with no index.
use Rattle.std.specs.Prelude.{◌≡◌, List, ℕ, [], Err, Ok, Result}
use Rattle.model.specs.declared.Refusal.{Refusal}
use Rattle.records.specs.declared.opened.Object.{Object}
use Rattle.deposit.specs.Open.{opened_of}

abbrev pub Opened : List ℕ → Result Object Refusal → Type 0
Opened d (Err q) = opened_of d ≡ Err q
Opened d (Ok o) = (o.records.bytes.now ≡ d) × (o.records.index.now ≡ []) × (opened_of d ≡ Ok o.records.view)
