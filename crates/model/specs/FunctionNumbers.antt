-- The function table as numbers, and a load that is lent it so.
use Rattle.model.specs.declared.Summary.{Summary}
use Rattle.model.specs.declared.Refusal.{Refusal}
use Rattle.std.specs.Prelude.{List, [], ◌∷◌, ℕ, ◌/◌, length, Result}
use Rattle.model.specs.declared.Function.{Function as FunctionRow}
use Rattle.model.specs.declared.Room.{Room}
use Rattle.model.specs.Bytes.{each}
use Rattle.model.specs.Lent.{lent_room, filled, Outcome}

-- S104: a row's seven numbers
abbrev pub row_numbers : FunctionRow → List ℕ
row_numbers f =
    f.section.0
    ∷ f.address
    ∷ f.offset
    ∷ f.name.at
    ∷ f.name.length
    ∷ f.code.at
    ∷ f.code.length
    ∷ []

unfoldable pub flat_rows : List FunctionRow → List ℕ
flat_rows fs = each row_numbers fs

-- S104: how many rows so many numbers have room for
abbrev pub rows_in : ℕ → ℕ
rows_in n = n / 7

-- S104: what such a call leaves behind: its answer, and what each lent list holds
pub record FlatOutcome : Type 0 where
  pub reply : Result Summary Refusal
  pub sections : List ℕ
  pub programs : List ℕ
  pub functions : List ℕ
  pub maps : List ℕ
  pub relocations : List ℕ
  pub bytes : List ℕ

abbrev pub flat : Result Summary Refusal → List ℕ → List ℕ → List ℕ → List ℕ → List ℕ → List ℕ → FlatOutcome
flat a s p f m r b = record { reply = a; sections = s; programs = p; functions = f; maps = m; relocations = r; bytes = b }

-- S104: that of a load's outcome, its function table as n numbers: the rows, and zeros behind
abbrev pub flat_of : ℕ → Outcome → FlatOutcome
flat_of n o =
    flat o.reply o.lent.sections o.lent.programs (filled 0 n (flat_rows o.lent.functions)) o.lent.maps o.lent.relocations o.lent.bytes

-- S104: the room that the lent lists have
abbrev pub flat_room : List ℕ → List ℕ → List ℕ → List ℕ → List ℕ → List ℕ → Room
flat_room s p f m r b = lent_room (length s) (length p) (rows_in (length f)) (length m) (length r) (length b)
