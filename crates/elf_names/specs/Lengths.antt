-- What is wanted: the names of records of one width, in the string table from a place up to another.
use Rattle.std.specs.Prelude.{Bool, List, ℕ, ◌+◌, ◌-◌, ◌*◌, length, drop}
use Rattle.lists.specs.Tab.{tab}
use Rattle.model.specs.declared.Endianness.{Endianness}
use Rattle.model.specs.Bytes.{part}
use Rattle.model.specs.Deposit.{all}
use Rattle.model.specs.Elf.{field, string_at}
use Rattle.model.specs.ElfRefusals.{string_ok}

abbrev pub string_table : List ℕ → ℕ → ℕ → List ℕ
string_table d strings end = part d strings (end - strings)

-- the offset of record i's name: its first four bytes
abbrev pub name_offset : Endianness → List ℕ → ℕ → ℕ → ℕ → ℕ
name_offset order d at width i = field order d (at + width * i) 4

module _ (order : Endianness) (d : List ℕ) (at width strings end n : ℕ) where
  -- 26 on the names of n records
  abbrev pub strings_ok : Bool
  strings_ok = all (λ o. string_ok (drop o (string_table d strings end))) (tab (name_offset order d at width) n)

  abbrev pub string_lengths : List ℕ
  string_lengths = tab (λ i. length (string_at (string_table d strings end) (name_offset order d at width i))) n
