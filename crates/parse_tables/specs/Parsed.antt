-- What parsing an object answers, and what it leaves in the lent tables.
use Rattle.std.specs.Prelude.{◌≡◌, List, ◌++◌, ℕ, ◌-◌, ◌≤◌, length, take, drop, Err, None, Ok, Option, Result, Some}
use Rattle.std.proofs.Common.{sym, ap, ◌∙◌, arith, length-append, length-take-le}
use Rattle.std.proofs.Math.Seq.{take-append-le}
use Rattle.lists.specs.Tests.{not_some}
use Rattle.object_view.specs.declared.View.{View}
use Rattle.model.specs.declared.Refusal.{Refusal}
use Rattle.model.specs.Contents.{version_of}
use Rattle.model.specs.Refusals.{object_refusal}
use Rattle.model.specs.Table.{table_of}
use Rattle.object.specs.View.{object_in}
use Rattle.catalogue_numbers.specs.Numbers.{section_numbers, program_numbers, function_numbers, map_numbers}
use Rattle.parse_first.specs.LicenceVersion.{license_at}
use Rattle.parse_sections.specs.declared.Counts.{Counts}
use Rattle.parse_sections.specs.Candidates.{Candidates}

-- ---- one table

-- those numbers stand in front
abbrev pub Front : List ℕ → List ℕ → Type 0
Front ns out = take (length ns) out ≡ ns

pub record Tabled (ns : List ℕ) (r : ℕ) (out : List ℕ) : Type 0 where
  pub count : r ≡ length ns
  pub front : Front ns out

pub tabled : (key : ℕ → List ℕ) {cs o : List ℕ} {n : ℕ} (y : List ℕ) (r : ℕ) → Candidates cs n o → length y ≡ length (take n o) → r ≤ length (take n o) → take r y ≡ table_of key (take n o)
    → Tabled (table_of key cs) r (y ++ drop n o)
tabled key {o = o} {n = n} y r c k l f =
    let q : take r (y ++ drop n o) ≡ table_of key _ = take-append-le r y (drop n o) (omega arith) ∙ f ∙ ap (table_of key) c.front in
    let e : r ≡ length (table_of key _) = sym (length-take-le r (y ++ drop n o) (rw length-append (omega arith))) ∙ ap length q in
    record { count = e; front = rw (← e) q }

-- the front of a list, lent
pub lent_length : (l : List ℕ) (y n : ℕ) → y ≡ n → n ≤ length l → length (take (y - 0) l) ≡ n
lent_length l y n e h = let z : y - 0 ≡ n = omega arith in rw z (length-take-le n l h)

-- ---- the answer

abbrev pub tables_of : Option Refusal → Counts → Result Counts Refusal
tables_of None c = Ok c
tables_of (Some q) c = Err q

module _ (d t : List ℕ) (v : View) where
  abbrev pub counts_of : Counts
  counts_of =
      record {
        sections = length (section_numbers d t v);
        programs = length (program_numbers d t v);
        functions = length (function_numbers d t v);
        maps = length (map_numbers d t v);
        license = license_at d t v;
        version = version_of (object_in d t v);
      }

  -- the four tables, each at the front of its list
  pub record TablesHeld (sections programs functions maps : List ℕ) : Type 0 where
    pub of-sections : Front (section_numbers d t v) sections
    pub of-programs : Front (program_numbers d t v) programs
    pub of-functions : Front (function_numbers d t v) functions
    pub of-maps : Front (map_numbers d t v) maps

  pub record Parsed (r : Result Counts Refusal) (sections programs functions maps : List ℕ) : Type 0 where
    pub answer : r ≡ tables_of (object_refusal (object_in d t v)) counts_of
    pub numbers : object_refusal (object_in d t v) ≡ None → TablesHeld sections programs functions maps

  module _ (s p f m : List ℕ) where
    pub parsed-refused : (x : Refusal) → object_refusal (object_in d t v) ≡ Some x → Parsed (Err x) s p f m
    parsed-refused x e = record { answer = rw e; numbers = λ z. not_some x (sym e ∙ z) }

    pub parsed-numbers : (r : Counts) → object_refusal (object_in d t v) ≡ None → r ≡ counts_of → TablesHeld s p f m → Parsed (Ok r) s p f m
    parsed-numbers r e c t = record { answer = ap Ok c ∙ rw e; numbers = λ z. t }
