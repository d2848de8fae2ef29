-- The parts of the index as the functions below write them.
use Rattle.std.specs.Prelude.{◌≡◌}
use Rattle.std.proofs.Common.{sym, ◌∙◌}
use Rattle.std.proofs.Math.Path.{ap}
use mathlib.Core.List.{List, ◌++◌, append_assoc}
use Prim.Native.Nat.{ℕ}
use Rattle.std.proofs.Math.ListN.{length}
use Rattle.lists.specs.Tab.{tab, tab-ext, rows}
use Rattle.model.specs.Elf.{file_of, string_at}
use Rattle.elf_header.specs.Headers.{headers_in}
use Rattle.elf_layout.specs.Layout.{elf_view, layout_of}
use Rattle.elf_names.specs.Lengths.{string_lengths}
use Rattle.elf_object.specs.Inside.{TablesRuled, section-strings, symbol-strings}
use Rattle.elf_object.specs.Indexed.{section_name_offset, symbol_name_offset, file_places, Indexed}
use Rattle.elf_object.specs.Parts.{section_name_length, symbol_name_length, first_places, place_counts}
use Rattle.elf_object.proofs.Parts.{indexed-parts}

module _ (f : List ℕ) where
  unfoldable pub section_part : List ℕ
  section_part = string_lengths (file_of f).order f (headers_in f).first 64 (elf_view f).strings.sections (layout_of f).ends.sections (headers_in f).sections

  unfoldable pub symbol_part : List ℕ
  symbol_part = string_lengths (file_of f).order f (elf_view f).at.symbols 24 (elf_view f).strings.symbols (layout_of f).ends.symbols (elf_view f).symbols

  unfoldable pub relocation_part : List ℕ
  relocation_part = first_places f ++ (place_counts f ++ rows (file_places f) (headers_in f).sections)

  module _ (r : TablesRuled f (file_of f)) where
    sections-are : section_part ≡ tab (section_name_length f) (headers_in f).sections
    unfolding section_part
    sections-are =
        tab-ext _ _ (headers_in f).sections (λ i l. ap (λ (s : List ℕ). length (string_at s (section_name_offset f i))) (sym (section-strings f r).bytes))

    symbols-are : symbol_part ≡ tab (symbol_name_length f) (elf_view f).symbols
    unfolding symbol_part
    symbols-are =
        tab-ext _ _ (elf_view f).symbols (λ j l. ap (λ (s : List ℕ). length (string_at s (symbol_name_offset f j))) (sym (symbol-strings f r).bytes))

    pub indexed : (t rest : List ℕ) → t ≡ section_part ++ (symbol_part ++ (relocation_part ++ rest)) → Indexed f t
    unfolding relocation_part
    indexed t rest e =
        let places : List ℕ = rows (file_places f) (headers_in f).sections in
        let tail : relocation_part ++ rest ≡ first_places f ++ (place_counts f ++ (places ++ rest)) =
        append_assoc (first_places f) (place_counts f ++ places) rest ∙ ap (λ (x : List ℕ). first_places f ++ x) (append_assoc (place_counts f) places rest)
        in
        indexed-parts f rest t r (e ∙ (λ i. sections-are i ++ (symbols-are i ++ tail i)))
