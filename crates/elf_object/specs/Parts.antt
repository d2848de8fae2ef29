-- The parts that an index is made of, one after the other.
use mathlib.Core.List.{List}
use Prim.Native.Nat.{ℕ}
use Rattle.std.proofs.Math.ListN.{length}
use Rattle.lists.specs.Tab.{tab, rows}
use Rattle.model.specs.Elf.{string_at}
use Rattle.elf_header.specs.Headers.{headers_in}
use Rattle.elf_object.specs.Inside.{section_strings, symbol_strings}
use Rattle.elf_object.specs.Indexed.{section_name_offset, symbol_name_offset, file_places}

module _ (f : List ℕ) where
  -- the lengths of the names
  abbrev pub section_name_length : ℕ → ℕ
  section_name_length i = length (string_at (section_strings f) (section_name_offset f i))

  abbrev pub symbol_name_length : ℕ → ℕ
  symbol_name_length j = length (string_at (symbol_strings f) (symbol_name_offset f j))

  abbrev pub first_places : List ℕ
  first_places = tab (λ i. length (rows (file_places f) i)) (headers_in f).sections

  abbrev pub place_counts : List ℕ
  place_counts = tab (λ i. length (file_places f i)) (headers_in f).sections
