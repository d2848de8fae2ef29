-- What the functions tell: of where a name stops, of a memo, of one name, and of all names.
use Rattle.std.specs.Prelude.{◌≡◌, ◌⊎◌, Bool, true, false, List, ℕ, suc, ◌+◌, ◌-◌, ◌*◌, ◌<◌, ◌≤◌, length, get_or, drop, ◌&&◌, ⊤, Result, Ok, Err, MatchResult}
use Rattle.std.proofs.Common.{arith, length-take, drop_of_length-le}
use Rattle.std.proofs.Math.Seq.{slice}
use Rattle.model.specs.LicenceVersion.{has_zero}
use Rattle.model.specs.Elf.{up_to_zero}
use Rattle.model.specs.ElfRefusals.{string_ok}
use Rattle.elf_laws.specs.Places.{table-from}
use Rattle.elf_names.specs.declared.NameFault.{NameFault}
use Rattle.elf_names.specs.Lengths.{string_table}
use Rattle.elf_names.specs.Stop.{stop, stop-from}

-- the letters from p on stop at q, or more than 65,535 of them lie before it
pub record Stopped (d : List ℕ) (end p q : ℕ) : Type 0 where
  pub from : p ≤ q
  pub reach : q ≤ stop d end p
  pub is : q - p ≤ 65535 → q ≡ stop d end p

pub stopped-at : (d : List ℕ) (end p q : ℕ) → q ≡ stop d end p → Stopped d end p q
stopped-at d end p q e = record { from = omega (arith, stop-from d end p); reach = omega arith; is = λ h. e }

pub stopped-past : (d : List ℕ) (end p q : ℕ) → 65535 < q - p → q ≤ stop d end p → Stopped d end p q
stopped-past d end p q h r = record { from = omega arith; reach = r; is = λ l. let no : ⊥ = omega arith in absurd no }

-- a memo's number for a 1,024th byte of the table is 0, or one more than the place where the letters from there on stop
abbrev pub MemoHolds : List ℕ → ℕ → ℕ → List ℕ → Type 0
MemoHolds d strings end memo = (j q : ℕ) → get_or memo j 0 ≡ suc q → stop d end (strings + 1024 * j) ≡ q

-- each number is as it was, or it is v and lies between two places
abbrev pub Filled : ℕ → ℕ → ℕ → List ℕ → List ℕ → Type 0
Filled from to v m₀ m = (j : ℕ) → (get_or m j 0 ≡ get_or m₀ j 0) ⊎ ((from ≤ j) × (j < to) × (get_or m j 0 ≡ v))

-- why a name, or names, have no length, with a memo of k numbers
abbrev pub FaultTold : ℕ → Bool → NameFault → Type 0
FaultTold k ok NameFault.Broken = ok ≡ false
FaultTold k ok NameFault.Long = k ≡ 0

-- of a name
abbrev pub MeasureTold : ℕ → List ℕ → Result ℕ NameFault → Type 0
MeasureTold k s r = MatchResult r (λ n. (string_ok s ≡ true) × (n ≡ length (up_to_zero s))) (FaultTold k (string_ok s))

-- of all names
abbrev pub SurveyTold : ℕ → Bool → List ℕ → List ℕ → Result ⊤ NameFault → Type 0
SurveyTold k ok wanted lens r = MatchResult r (λ _. (ok ≡ true) × (lens ≡ wanted)) (FaultTold k ok)

-- a name at an offset past the table's end
pub told-past : (d : List ℕ) (strings end o : ℕ) → end - strings ≤ o → string_ok (drop o (string_table d strings end)) ≡ false
unfolding string_ok has_zero
told-past d strings end o h =
    let l : length (string_table d strings end) ≤ o = rw length-take (omega arith) in
    rw (drop_of_length-le (string_table d strings end) l)

-- what is told of a name where it lies
pub told-there : (k : ℕ) (d : List ℕ) (strings end o : ℕ) (r : Result ℕ NameFault) → MeasureTold 1 (slice (strings + o) end d) r
    → MeasureTold k (drop o (string_table d strings end)) r
told-there k d strings end o (Ok n) t = rw (table-from d strings end o) t
told-there k d strings end o (Err NameFault.Broken) t = rw (table-from d strings end o) t
told-there k d strings end o (Err NameFault.Long) t = let no : ⊥ = omega arith in absurd no

-- a fault of one name is one of all
pub fault-of-all : (k : ℕ) (a b : Bool) (e : NameFault) → FaultTold k a e → FaultTold k (a && b) e
fault-of-all k a b NameFault.Broken t = rw t
fault-of-all k a b NameFault.Long t = t
