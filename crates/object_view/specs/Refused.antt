-- A refusal that names neither a record nor an entry: '1 to 3 name 0 0 0.'
use Rattle.std.specs.Prelude.{ℕ}
use Rattle.model.specs.declared.Refusal.{Refusal}
use Rattle.model.specs.Refusals.{no_section, no_symbol}

abbrev pub without_place : ℕ → Refusal
without_place n = record { number = n; section = no_section; symbol = no_symbol; entry = 0 }
