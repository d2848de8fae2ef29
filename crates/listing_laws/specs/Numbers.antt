-- What a load leaves in the lent tables, with the function table as numbers.
use Rattle.model.specs.declared.Summary.{Summary}
use Rattle.model.specs.declared.Refusal.{Refusal}
use Rattle.std.specs.Prelude.{◌≡◌, List, ◌++◌, ℕ, ◌-◌, length, replicate, Result}
use Rattle.std.proofs.Common.{ap}
use Rattle.model.specs.FunctionNumbers.{flat_rows, flat, flat_of}
use Rattle.model.specs.Lent.{Lent, Outcome}

-- what is lent, its function table as numbers with anything behind them
pub record Flat (i : Lent) (programs functions maps bytes : List ℕ) : Type 0 where
  pub same-programs : programs ≡ i.programs
  pub rest : List ℕ
  pub same-functions : functions ≡ flat_rows i.functions ++ rest
  pub same-maps : maps ≡ i.maps
  pub same_bytes : bytes ≡ i.bytes

module _ (n : ℕ) (o : Outcome) (r : Result Summary Refusal) (s p f m l b : List ℕ) (e : flat r s p f m l b ≡ flat_of n o) where
  pub flat-answer : r ≡ o.reply
  flat-answer = ap (λ x. x.reply) e

  pub flat-tables : Flat o.lent p f m b
  flat-tables =
      record {
        same-programs = ap (λ x. x.programs) e;
        rest = replicate (n - length (flat_rows o.lent.functions)) 0;
        same-functions = ap (λ x. x.functions) e;
        same-maps = ap (λ x. x.maps) e;
        same_bytes = ap (λ x. x.bytes) e;
      }
