-- The symbol records of a file's view: what they hold.
use Rattle.std.specs.Prelude.{◌≡◌, true, List, [], ℕ, ◌+◌, ◌*◌, ◌<◌, ◌≤◌, get_or, None, Option, Some}
use Rattle.std.proofs.Math.Path.{ap}
use Rattle.std.proofs.Common.{sym, ◌∙◌, arith}
use Rattle.std.proofs.Math.ListN.{length}
use Rattle.lists.specs.Tab.{tab, tab-none, tab-ext}
use Rattle.model.specs.declared.Endianness.{Endianness}
use Rattle.model.specs.Bytes.{maybe, part, u8}
use Rattle.model.specs.Elf.{field, Header, File, file_of, strings_of, file_symbol, file_symbols}
use Rattle.model.specs.ElfRefusals.{symbol_table_ok}
use Rattle.elf_laws.specs.Places.{symbols-tab}
use Rattle.elf_layout.specs.Layout.{table_symbols, symbols_start, elf_view, layout_of}
use Rattle.elf_records.specs.Elf.{num, entry_at}
use Rattle.elf_object.specs.Inside.{TablesRuled, view-order, symbol_strings, symbol-strings, symbols-inside}
use Rattle.elf_object.specs.Ranges.{field-start, field_in, field-first, byte-in, NameRead, name-read}
use Rattle.elf_object.specs.Indexed.{symbol_name_offset}
use Rattle.elf_object.specs.Named.{symbols-start, symbol-name-passes}

-- ---- the entries

-- the bytes of symbol number j, counted from 0
abbrev pub entry_of_symbol : List ℕ → ℕ → List ℕ
entry_of_symbol f j = part f ((elf_view f).at.symbols + 24 * j) 24

pub symbol-offset : (f : List ℕ) (j : ℕ) → field (file_of f).order (entry_of_symbol f j) 0 4 ≡ symbol_name_offset f j
symbol-offset f j = sym (field-start f ((elf_view f).at.symbols + 24 * j) 24 (file_of f).order 4 (omega arith))

-- the symbols of a file by their entries
pub symbols-by-number : (f : List ℕ) → maybe (file_of f).symbols [] (file_symbols f (file_of f))
    ≡ tab (λ j. file_symbol (file_of f).order (symbol_strings f) (1 + j) (entry_of_symbol f j)) (elf_view f).symbols
unfolding elf_view
symbols-by-number f = go (file_of f).symbols
  where
    p : File
    p = file_of f

    go : (y : Option Header) → maybe y [] (file_symbols f p)
        ≡ tab (λ j. file_symbol p.order (maybe y [] (λ t. strings_of f p t.link)) (1 + j) (part f (maybe y 0 symbols_start + 24 * j) 24)) (maybe y 0 table_symbols)
    go None = sym (tab-none _)
    go (Some t) =
        symbols-tab f p t
        ∙ tab-ext _ _ (table_symbols t)
        (λ j l. ap (λ (q : ℕ). file_symbol p.order (strings_of f p t.link) (1 + j) (part f (q + 24 * j) 24)) (sym (symbols-start t j l)))

-- ---- the fields of an entry, by its record

pub record EntryRead (f : List ℕ) (j : ℕ) : Type 0 where
  pub name : num f (elf_view f) (entry_at f (elf_view f) j) 4 ≡ symbol_name_offset f j
  pub info : get_or f (entry_at f (elf_view f) j + 4) 0 ≡ u8 (entry_of_symbol f j) 4
  pub section : num f (elf_view f) (entry_at f (elf_view f) j + 6) 2 ≡ field (file_of f).order (entry_of_symbol f j) 6 2
  pub address : num f (elf_view f) (entry_at f (elf_view f) j + 8) 8 ≡ field (file_of f).order (entry_of_symbol f j) 8 8
  pub size : num f (elf_view f) (entry_at f (elf_view f) j + 16) 8 ≡ field (file_of f).order (entry_of_symbol f j) 16 8

module _ (f : List ℕ) (r : TablesRuled f (file_of f)) (j : ℕ) (l : j < (elf_view f).symbols) where
  pub entry_read : EntryRead f j
  entry_read =
      let fits : (elf_view f).at.symbols + 24 * j + 24 ≤ length f = omega (arith, symbols-inside f r) in
      let order : (elf_view f).order ≡ (file_of f).order = view-order f in
      let at : (k w : ℕ) → k + w ≤ 24 → num f (elf_view f) (entry_at f (elf_view f) j + k) w ≡ field (file_of f).order (entry_of_symbol f j) k w = λ k w h.
      field_in f ((elf_view f).at.symbols + 24 * j) 24 fits (elf_view f).order k w h ∙ ap (λ (o : Endianness). field o (entry_of_symbol f j) k w) order
      in
      record {
        name =
            field-first f ((elf_view f).at.symbols + 24 * j) 24 fits (elf_view f).order 4 (omega arith)
            ∙ ap (λ (o : Endianness). field o (entry_of_symbol f j) 0 4) order
            ∙ symbol-offset f j;
        info = byte-in f ((elf_view f).at.symbols + 24 * j) 24 fits 4 (omega arith);
        section = at 6 2 (omega arith);
        address = at 8 8 (omega arith);
        size = at 16 8 (omega arith);
      }

  pub symbol-name-read : maybe (file_of f).symbols true (symbol_table_ok f (file_of f)) ≡ true
      → NameRead f (symbol_strings f) (elf_view f).strings.symbols (symbol_name_offset f j)
  symbol-name-read ok =
      name-read f (symbol_strings f) (elf_view f).strings.symbols (layout_of f).ends.symbols (symbol_name_offset f j) r.short (symbol-strings f r)
      (symbol-name-passes f r ok j l)
