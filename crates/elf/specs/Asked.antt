-- What the index's functions ask and say, of the layout of a file that passes.
use Rattle.std.specs.Prelude.{◌≡◌, true, false, List, ◌++◌, ℕ, ◌+◌, ◌*◌, ◌≤◌, length, ⊤, Result, MatchResult}
use Rattle.std.proofs.Math.Path.{refl, sym, ap}
use Rattle.std.proofs.Common.{◌∙◌}
use native.Mathlib.Omega.{arith}
use Rattle.lists.specs.Tab.{tab, rows}
use Rattle.model.specs.declared.Endianness.{Endianness}
use Rattle.model.specs.declared.Refusal.{Refusal}
use Rattle.model.specs.Elf.{file_of}
use Rattle.model.specs.ElfRefusals.{section_names_ok, entries_of}
use Rattle.elf_header.specs.declared.Headers.{Headers}
use Rattle.elf_header.specs.Headers.{file_header_of, headers_of, headers_in}
use Rattle.elf_header.specs.Used.{used_in, places_for}
use Rattle.elf_layout.specs.declared.Layout.{Layout}
use Rattle.elf_layout.specs.Layout.{table_number, elf_view, layout_of, file_refusal}
use Rattle.elf_names.specs.Lengths.{strings_ok, string_lengths}
use Rattle.elf_relocations.specs.Placing.{Placeable}
use Rattle.elf_object.specs.Inside.{TablesRuled, tables-ruled, tables-in-use, section-strings, symbol-strings, headers-inside, symbols-inside}
use Rattle.elf_object.specs.Named.{section-names-pass, symbol-names-pass}
use Rattle.elf_object.specs.Placed.{tables-placeable}
use Rattle.elf.specs.Names.{symbols_ok}
use Rattle.elf.specs.Index.{section_part, symbol_part, relocation_part}
use Rattle.elf.specs.Opened.{Passes}

-- what `index_names` asks
abbrev pub NamesAsk : List ℕ → ℕ → ℕ → ℕ → ℕ → ℕ → Type 0
NamesAsk f at width s e n = (at + width * n ≤ length f) × (4 ≤ width) × (s ≤ e) × (e ≤ length f) × (length f ≤ 16777216)

-- what it says
abbrev pub NamesTold : Endianness → List ℕ → ℕ → ℕ → ℕ → ℕ → ℕ → List ℕ → Result ⊤ Refusal → Type 0
NamesTold o f at width s e n z r =
    MatchResult r
    (λ _. (strings_ok o f at width s e n ≡ true) × (z ≡ string_lengths o f at width s e n))
    (λ x. (x ≡ file_refusal 26) × (strings_ok o f at width s e n ≡ false))

module _ (f : List ℕ) (l : Layout) (p : Passes f l) where
  ruled-tables : TablesRuled f (file_of f)
  ruled-tables = tables-ruled f (file_of f) p.tables

  file-sections : NamesAsk f (layout_of f).view.at.sections 64 (layout_of f).view.strings.sections (layout_of f).ends.sections (layout_of f).view.sections
  unfolding layout_of elf_view
  file-sections =
      let s = section-strings f ruled-tables in
      (headers-inside f ruled-tables, omega arith, s.rises, s.inside, ruled-tables.short)

  file-symbols : NamesAsk f (layout_of f).view.at.symbols 24 (layout_of f).view.strings.symbols (layout_of f).ends.symbols (layout_of f).view.symbols
  unfolding layout_of
  file-symbols =
      let s = symbol-strings f ruled-tables in
      (symbols-inside f ruled-tables, omega arith, s.rises, s.inside, ruled-tables.short)

  file-section-names : strings_ok (layout_of f).view.order f (layout_of f).view.at.sections 64 (layout_of f).view.strings.sections (layout_of f).ends.sections (layout_of f).view.sections
      ≡ section_names_ok f (file_of f)
  unfolding layout_of elf_view
  file-section-names = sym (section-names-pass f ruled-tables)

  file-symbol-names : strings_ok (layout_of f).view.order f (layout_of f).view.at.symbols 24 (layout_of f).view.strings.symbols (layout_of f).ends.symbols (layout_of f).view.symbols
      ≡ symbols_ok f (file_of f)
  unfolding layout_of elf_view
  file-symbol-names = sym (symbol-names-pass f ruled-tables)

  file-section-lengths : string_lengths (layout_of f).view.order f (layout_of f).view.at.sections 64 (layout_of f).view.strings.sections (layout_of f).ends.sections (layout_of f).view.sections
      ≡ section_part f
  unfolding layout_of elf_view section_part
  file-section-lengths = refl

  file-symbol-lengths : string_lengths (layout_of f).view.order f (layout_of f).view.at.symbols 24 (layout_of f).view.strings.symbols (layout_of f).ends.symbols (layout_of f).view.symbols
      ≡ symbol_part f
  unfolding layout_of elf_view symbol_part
  file-symbol-lengths = refl

-- the sections' names by the layout
module _ (f : List ℕ) (l : Layout) (p : Passes f l) (n : ℕ) (e : n ≡ l.view.sections) where
  pub sections-ask : NamesAsk f l.view.at.sections 64 l.view.strings.sections l.ends.sections n
  sections-ask = rw (e, p.layout) (file-sections f l p)

  pub section-names : strings_ok l.view.order f l.view.at.sections 64 l.view.strings.sections l.ends.sections n ≡ section_names_ok f (file_of f)
  section-names = rw (e, p.layout) (file-section-names f l p)

  pub section-lengths : string_lengths l.view.order f l.view.at.sections 64 l.view.strings.sections l.ends.sections n ≡ section_part f
  section-lengths = rw (e, p.layout) (file-section-lengths f l p)

-- and those of symbols
module _ (f : List ℕ) (l : Layout) (p : Passes f l) (n : ℕ) (e : n ≡ l.view.symbols) where
  pub symbols-ask : NamesAsk f l.view.at.symbols 24 l.view.strings.symbols l.ends.symbols n
  symbols-ask = rw (e, p.layout) (file-symbols f l p)

  pub symbol-names : strings_ok l.view.order f l.view.at.symbols 24 l.view.strings.symbols l.ends.symbols n ≡ symbols_ok f (file_of f)
  symbol-names = rw (e, p.layout) (file-symbol-names f l p)

  pub symbol-lengths : string_lengths l.view.order f l.view.at.symbols 24 l.view.strings.symbols l.ends.symbols n ≡ symbol_part f
  symbol-lengths = rw (e, p.layout) (file-symbol-lengths f l p)

-- ---- the relocations

module _ (f : List ℕ) (l : Layout) (p : Passes f l) where
  abbrev number : ℕ
  number = table_number (file_of f)

  r : TablesRuled f (file_of f)
  r = tables-ruled f (file_of f) p.tables

  -- the headers by the layout
  abbrev pub layout_headers : Headers
  layout_headers = record { order = l.view.order; first = l.view.at.sections; sections = l.view.sections }

  headers-are : record { order = (layout_of f).view.order; first = (layout_of f).view.at.sections; sections = (layout_of f).view.sections } ≡ headers_in f
  unfolding layout_of elf_view headers_of file_header_of
  headers-are = refl

  layout-headers-are : layout_headers ≡ headers_in f
  layout-headers-are = rw p.layout headers-are

  table_is : (layout_of f).table ≡ number
  unfolding layout_of
  table_is = refl

  layout-table : l.table ≡ number
  layout-table = rw p.layout table_is

  file-relocations : entries_of (used_in f (headers_in f) number) ≡ (layout_of f).view.relocations
  unfolding layout_of elf_view
  file-relocations = ap entries_of (sym (tables-in-use f))

  file-count : (layout_of f).view.sections ≡ (headers_in f).sections
  unfolding layout_of elf_view
  file-count = refl

  pub relocations-ask : (n : ℕ) → n ≡ 2 * l.view.sections + l.view.relocations → Placeable f layout_headers l.table n
  relocations-ask n e =
      rw (layout-headers-are, layout-table)
      (record {
        tables = tables-placeable f r;
        whole = e ∙ rw (p.layout, file-count, ← file-relocations);
      })

  pub relocations-said : (z : List ℕ)
      → z ≡ tab (λ i. length (rows (places_for f layout_headers l.table) i)) layout_headers.sections
      ++ (tab (λ i. length (places_for f layout_headers l.table i)) layout_headers.sections ++ rows (places_for f layout_headers l.table) layout_headers.sections)
      → z ≡ relocation_part f
  unfolding relocation_part
  relocations-said z e = e ∙ rw (layout-headers-are, layout-table, p.layout, file-count)
