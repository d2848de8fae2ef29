-- A file that passes 26 has a readable view, whose records stand for its object, where its index holds what it should.
use Rattle.std.specs.Prelude.{◌≡◌, true, ℕ, ◌+◌, ◌<◌, ◌≤◌, length}
use Rattle.std.proofs.Math.Path.{refl, sym, ap}
use Rattle.std.proofs.Common.{◌∙◌, zero-add, add-zero, arith}
use mathlib.Core.List.{List, map}
use Rattle.std.proofs.Math.Nat.{mul-zero}
use Rattle.lists.specs.Tab.{tab, tab-ext}
use Rattle.lists.specs.Walk.{map-tab}
use Rattle.model.specs.declared.SectionRecord.{SectionRecord}
use Rattle.model.specs.declared.SymbolRecord.{SymbolRecord}
use Rattle.model.specs.Deposit.{extent}
use Rattle.model.specs.Elf.{File, file_of, string_at, file_section, stated_in, elf_object_of}
use Rattle.model.specs.ElfRefusals.{rules_ok}
use Rattle.records.specs.View.{section_at, symbol_at, section-elf, symbol-elf}
use Rattle.records.specs.Readable.{NameFits, DataFits, Readable}
use Rattle.object.specs.View.{section_from, symbol_from, object_in}
use Rattle.elf_laws.specs.Rules.{Ruled, ruled}
use Rattle.elf_header.specs.Headers.{headers_in, sections-by-number}
use Rattle.elf_layout.specs.Layout.{elf_view}
use Rattle.elf_records.specs.Elf.{data_range, section_index_at, elf_section, elf_symbol}
use Rattle.elf_object.specs.Inside.{TablesRuled, rules-tables, view-sections, section_strings, symbol_strings, sections-few, symbols-few, relocations-few, header-passes}
use Rattle.elf_object.specs.Ranges.{NameRead, DataRead, header-size-small}
use Rattle.elf_object.specs.Indexed.{symbol_name_offset, Indexed}
use Rattle.elf_object.proofs.Relocated.{relocs-end}
use Rattle.elf_object.specs.Sections.{header_of_file, HeaderRead, header_read, section-name-read, section-data-read}
use Rattle.elf_object.proofs.Sections.{section-name-at, section-bytes-at, section-is}
use Rattle.elf_object.specs.Symbols.{symbols-by-number, symbol-name-read}
use Rattle.elf_object.proofs.Symbols.{symbol-name-at, symbol-is}

module _ (f t : List ℕ) (ok : rules_ok f (file_of f) ≡ true) (x : Indexed f t) where
  r : TablesRuled f (file_of f)
  r = rules-tables f (file_of f) ok

  -- ---- the view

  name-fits : (s : List ℕ) (start at : ℕ) → NameRead f s start at → NameFits f (elf_view f) (extent (start + at) (length (string_at s at)))
  unfolding elf_view
  name-fits s start at n = record { short = n.short; placed = rw (zero-add, mul-zero, add-zero) n.ends }

  section-fits : (i : ℕ) → i < (elf_view f).sections → NameFits f (elf_view f) (section_at f t (elf_view f) i).name
  unfolding elf_view
  section-fits i l =
      rw (section-elf f t (elf_view f) refl i, section-name-at f t r (ruled f (file_of f) ok).names x i l)
      (name-fits (section_strings f) (elf_view f).strings.sections (header_of_file f i).name (section-name-read f r i l (ruled f (file_of f) ok).names))

  symbol-fits : (j : ℕ) → j < (elf_view f).symbols → NameFits f (elf_view f) (symbol_at f t (elf_view f) j).name
  unfolding elf_view
  symbol-fits j l =
      rw (symbol-elf f t (elf_view f) refl j, symbol-name-at f t r (ruled f (file_of f) ok).symbols x j l)
      (name-fits (symbol_strings f) (elf_view f).strings.symbols (symbol_name_offset f j) (symbol-name-read f r j l (ruled f (file_of f) ok).symbols))

  data-fits : (i : ℕ) → i < (elf_view f).sections → DataFits f (elf_view f) (section_at f t (elf_view f) i).bytes
  unfolding elf_view
  data-fits i l =
      let d : DataRead f _ (data_range (header_of_file f i).kind (header_of_file f i).offset (header_of_file f i).size) = section-data-read f r i l in
      rw (section-elf f t (elf_view f) refl i, section-bytes-at f t r (ruled f (file_of f) ok).names x i l)
      (record { short = d.short; placed = rw (zero-add, mul-zero, add-zero) d.ends })

  section-number : (i : ℕ) → i < (elf_view f).sections → (section_at f t (elf_view f) i).index.0 ≡ 1 + i
  unfolding elf_view elf_section section_index_at
  section-number i l =
      ap (λ (s : SectionRecord). s.index.0) (section-elf f t (elf_view f) refl i) ∙ omega (arith, sections-few f r)

  symbol-number : (j : ℕ) → j < (elf_view f).symbols → (symbol_at f t (elf_view f) j).index.0 ≡ 1 + j
  unfolding elf_view elf_symbol
  symbol-number j l =
      ap (λ (s : SymbolRecord). s.index.0) (symbol-elf f t (elf_view f) refl j) ∙ omega (arith, symbols-few f r)

  section-small : (i : ℕ) → i < (elf_view f).sections → (section_at f t (elf_view f) i).size ≤ 16777216
  unfolding elf_view elf_section
  section-small i l =
      let h : HeaderRead f i = header_read f r i l in
      rw (section-elf f t (elf_view f) refl i, h.size) (header-size-small (length f) (header_of_file f i) (header-passes f r i l))

  relocations-end : (i : ℕ) → i < (elf_view f).sections
      → (section_at f t (elf_view f) i).relocations.at + (section_at f t (elf_view f) i).relocations.length ≤ (elf_view f).relocations
  unfolding elf_view elf_section
  relocations-end i l = rw (section-elf f t (elf_view f) refl i) (relocs-end f t r x i l)

  -- the view of a file can be read
  pub readable-elf : Readable f t (elf_view f)
  readable-elf =
      record {
        short = r.short;
        few-sections = few;
        few-symbols = symbols-few f r;
        few-relocations = relocations-few f r;
        sections-rise = λ i j l m. omega (arith, section-number i (omega arith), section-number j m);
        symbols-rise = λ i j l m. omega (arith, symbol-number i (omega arith), symbol-number j m);
        section-name = section-fits;
        symbol-name = symbol-fits;
        section-size = section-small;
        section-data = data-fits;
        relocations-inside = relocations-end;
      }
    where
      few : (elf_view f).sections ≤ 4096
      few = rw (view-sections f) (sections-few f r)

  -- ---- the object

  -- and its records stand for the file's object
  pub object-elf : elf_object_of f ≡ object_in f t (elf_view f)
  unfolding elf_object_of stated_in object_in elf_view
  object-elf =
      let p : File = file_of f in
      let q : Ruled f p = ruled f p ok in
      let sections : map (file_section f p (section_strings f)) p.sections ≡ tab (λ i. section_from f t (elf_view f) (section_at f t (elf_view f) i)) (headers_in f).sections =
      ap (map (file_section f p (section_strings f))) (sections-by-number f)
      ∙ map-tab (header_of_file f) (headers_in f).sections (file_section f p (section_strings f))
      ∙ tab-ext _ _ (headers_in f).sections (λ i l. sym (section-is f t r q.names x i l))
      in
      let symbols : _ ≡ tab (λ j. symbol_from f t (elf_view f) (symbol_at f t (elf_view f) j)) (elf_view f).symbols =
      symbols-by-number f ∙ tab-ext _ _ (elf_view f).symbols (λ j l. sym (symbol-is f t r q.symbols x j l))
      in
      λ k. record { order = p.order; sections = sections k; symbols = symbols k }
