-- What a load of an opened object leaves but for the function table, and which rows that is to have.
use Rattle.std.specs.Prelude.{◌≡◌, List, ℕ, ◌≤◌, length, take, replicate, Err, Ok, Result}
use Rattle.model.specs.declared.Function.{Function}
use Rattle.model.specs.declared.Refusal.{Refusal}
use Rattle.model.specs.declared.Summary.{Summary}
use Rattle.model.specs.Lent.{zero_row, lent, Outcome, outcome}
use Rattle.records.specs.declared.opened.Records.{Records}
use Rattle.records.specs.Of.{of}
use Rattle.rows_functions.specs.Rows.{rows_made}
use Rattle.load_object.specs.declared.Loaded.{Loaded}

abbrev pub answer_of : Result Loaded Refusal → Result Summary Refusal
answer_of (Err q) = Err q
answer_of (Ok x) = Ok x.summary

-- the function table of n rows: those of the first record numbers of a list, as many as the summary says
abbrev pub functions_of : Records → List ℕ → ℕ → Result Loaded Refusal → List Function
functions_of r order n (Err q) = replicate n zero_row
functions_of r order n (Ok x) = of rows_made r (take x.summary.functions order) 0 x.rows n

-- the list has so many
abbrev pub Listed : List ℕ → Result Loaded Refusal → Type 0
Listed order (Err q) = Unit {0}
Listed order (Ok x) = x.summary.functions ≤ length order

-- of the outcome o, whose function table has n rows: the answer and what is lent
abbrev pub Done : Records → ℕ → Outcome → Result Loaded Refusal → List ℕ → List ℕ → List ℕ → List ℕ → List ℕ → List ℕ → Type 0
Done r n o x s p m l b order = (outcome (answer_of x) (lent s p (functions_of r order n x) m l b) ≡ o) × Listed order x
