-- What is known of a file that passes 25 and all of 26 but its names: the view of it, where its string tables end, and its symbol table's number.
use Rattle.std.specs.Prelude.{Bool, true, cond, ◌&&◌, ◌||◌, List, ℕ, ◌+◌, ◌-◌, ◌*◌, eqb, leb, length, Result, Ok, Err}
use Rattle.model.specs.declared.Refusal.{Refusal}
use Rattle.model.specs.Bytes.{maybe, inside}
use Rattle.model.specs.Deposit.{all}
use Rattle.model.specs.Refusals.{no_section, no_symbol}
use Rattle.model.specs.Elf.{Header, entry_count, whole_entries, section_numbered, File, file_of}
use Rattle.model.specs.ElfRefusals.{header_ok, links_strings, reloc_table_ok, entries_of, limits_ok, kind_ok}
use Rattle.object_view.specs.declared.Form.{Form}
use Rattle.object_view.specs.declared.View.{View}
use Rattle.elf_header.specs.Headers.{headers_in}
use Rattle.elf_layout.specs.declared.Layout.{Layout}

-- 26 but for the names
unfoldable pub tables_ok : List ℕ → File → Bool
tables_ok f p =
    leb 64 (length f)
    && (limits_ok (length f) p
    && ((eqb p.count 0 || inside p.at (64 * p.count) (length f))
    && (all (header_ok (length f)) p.sections
    && ((eqb p.count 0 || links_strings p.sections p.names)
    && (maybe p.symbols true (λ t. links_strings p.sections t.link && whole_entries t)
    && all (reloc_table_ok p.sections) p.relocations)))))

-- where the string table of a number begins and ends; one without bytes is nowhere
abbrev pub strings_start : Header → ℕ
strings_start h = cond (eqb h.size 0) 0 h.offset

abbrev pub strings_at : File → ℕ → ℕ
strings_at p n = maybe (section_numbered p.sections n) 0 strings_start

abbrev pub strings_end : File → ℕ → ℕ
strings_end p n = maybe (section_numbered p.sections n) 0 (λ h. strings_start h + h.size)

-- how many symbols a table has, entry 0 not being one, and where symbol 1 lies
abbrev pub table_symbols : Header → ℕ
table_symbols t = entry_count t - 1

abbrev pub symbols_start : Header → ℕ
symbols_start t = cond (eqb (table_symbols t) 0) 0 (t.offset + 24)

abbrev pub table_number : File → ℕ
table_number p = maybe p.symbols 0 (λ t. t.index)

unfoldable pub elf_view : List ℕ → View
elf_view f =
    let p : File = file_of f in
    record {
      form = Form.Elf;
      order = p.order;
      sections = (headers_in f).sections;
      symbols = maybe p.symbols 0 table_symbols;
      relocations = entries_of p.relocations;
      at =
          record {
            sections = (headers_in f).first;
            symbols = maybe p.symbols 0 symbols_start;
            relocations = 0;
            names = 0;
            bytes = 0;
          };
      strings = record { sections = strings_at p p.names; symbols = maybe p.symbols 0 (λ t. strings_at p t.link) };
    }

unfoldable pub layout_of : List ℕ → Layout
layout_of f =
    let p : File = file_of f in
    record {
      view = elf_view f;
      ends = record { sections = strings_end p p.names; symbols = maybe p.symbols 0 (λ t. strings_end p t.link) };
      table = table_number p;
    }

abbrev pub file_refusal : ℕ → Refusal
file_refusal n = record { number = n; section = no_section; symbol = no_symbol; entry = 0 }

-- what checking a file answers: its layout, or why it is refused
unfoldable pub checked_file : List ℕ → Result Layout Refusal
checked_file f =
    cond (kind_ok f (file_of f))
    (cond (tables_ok f (file_of f)) (Ok (layout_of f)) (Err (file_refusal 26)))
    (Err (file_refusal 25))
