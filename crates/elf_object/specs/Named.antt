-- The names of 26 by number, each where it lies: 26 is 26 but for the names, and the names of the sections and of the symbols.
use Rattle.std.specs.Prelude.{◌≡◌, refl, Bool, true, false, cond, ◌&&◌, List, [], ◌∷◌, map, ℕ, ◌+◌, ◌-◌, ◌*◌, ◌<◌, eqb, drop, None, Option, Some}
use Rattle.std.proofs.Common.{sym, ap, ◌∙◌, arith, ne_eqb}
use Rattle.lists.specs.Tab.{tab, tab-ext}
use Rattle.lists.specs.Tests.{both_true}
use Rattle.lists.specs.Walk.{map-tab}
use Rattle.model.specs.Bytes.{maybe, part}
use Rattle.model.specs.Deposit.{all}
use Rattle.model.specs.Elf.{field, Header, header_of, whole_entries, File, file_of, strings_of}
use Rattle.model.specs.ElfRefusals.{links_strings, string_ok, section_names_ok, symbol_table_ok}
use Rattle.elf_laws.specs.All.{all-tab-at}
use Rattle.elf_laws.specs.Places.{records-tab}
use Rattle.elf_header.specs.Headers.{header_in, file_header_of, headers_of, headers_in, sections-by-number}
use Rattle.elf_layout.specs.Layout.{table_symbols, symbols_start, elf_view, layout_of}
use Rattle.elf_object.specs.Inside.{TablesRuled, section_strings, symbol_strings, section-strings, symbol-strings}
use Rattle.elf_object.specs.Ranges.{field-start}
use Rattle.elf_object.specs.Indexed.{section_name_offset, symbol_name_offset}

-- ---- by number

all_map : {A B : Type 0} (ok : B → Bool) (g : A → B) (l : List A) → all (λ x. ok (g x)) l ≡ all ok (map g l)
unfolding all
all_map ok g [] = refl
all_map ok g (x ∷ l) = ap (λ (b : Bool). ok (g x) && b) (all_map ok g l)

no_names : (ok : ℕ → Bool) (g : ℕ → ℕ) → all ok (tab g 0) ≡ true
unfolding all tab
no_names ok g = refl

pub section-offset : (f : List ℕ) (i : ℕ) → (header_in f (headers_in f) i).name ≡ section_name_offset f i
unfolding headers_of file_header_of header_of
section-offset f i = sym (field-start f ((headers_in f).first + 64 * i) 64 (file_of f).order 4 (omega arith))

-- where symbol 1 lies, if there is one
pub symbols-start : (t : Header) (j : ℕ) → j < table_symbols t → symbols_start t ≡ t.offset + 24
symbols-start t j l =
    let e : eqb (table_symbols t) 0 ≡ false = ne_eqb (table_symbols t) 0 (λ z. let no : ⊥ = omega arith in no) in
    ap (λ (b : Bool). cond b 0 (t.offset + 24)) e

abbrev name_passes : List ℕ → ℕ → Bool
name_passes s o = string_ok (drop o s)

section-names : (f : List ℕ) → section_names_ok f (file_of f) ≡ all (name_passes (section_strings f)) (tab (section_name_offset f) (headers_in f).sections)
unfolding section_names_ok
section-names f =
    ap (all (λ h. name_passes (section_strings f) h.name)) (sections-by-number f)
    ∙ all_map (name_passes (section_strings f)) (λ h. h.name) (tab (header_in f (headers_in f)) (headers_in f).sections)
    ∙ ap (all (name_passes (section_strings f)))
    (map-tab (header_in f (headers_in f)) (headers_in f).sections (λ h. h.name) ∙ tab-ext _ (section_name_offset f) (headers_in f).sections (λ i l. section-offset f i))

symbol-names : (f : List ℕ) → TablesRuled f (file_of f)
    → maybe (file_of f).symbols true (symbol_table_ok f (file_of f)) ≡ all (name_passes (symbol_strings f)) (tab (symbol_name_offset f) (elf_view f).symbols)
unfolding symbol_table_ok elf_view
symbol-names f r = go (file_of f).symbols r.symbols
  where
    p : File
    p = file_of f

    go : (y : Option Header) → maybe y true (λ t. links_strings p.sections t.link && whole_entries t) ≡ true
        → maybe y true (symbol_table_ok f p)
        ≡ all (name_passes (maybe y [] (λ t. strings_of f p t.link))) (tab (λ j. field p.order f (maybe y 0 symbols_start + 24 * j) 4) (maybe y 0 table_symbols))
    go None e = sym (no_names _ _)
    go (Some t) e =
        let (a, b) = both_true (links_strings p.sections t.link) (whole_entries t) e in
        let name : List ℕ → ℕ = λ s. field p.order s 0 4 in
        let at : (j : ℕ) → j < table_symbols t → name (part f (t.offset + 24 + 24 * j) 24) ≡ field p.order f (symbols_start t + 24 * j) 4 = λ j l.
        sym (field-start f (t.offset + 24 + 24 * j) 24 p.order 4 (omega arith)) ∙ ap (λ (q : ℕ). field p.order f (q + 24 * j) 4) (sym (symbols-start t j l))
        in
        rw (a, b)
        (ap (all (name_passes (strings_of f p t.link))) (records-tab name 24 f (t.offset + 24) (table_symbols t) ∙ tab-ext _ _ (table_symbols t) at))

-- ---- one by one

pub section-name-passes : (f : List ℕ) → section_names_ok f (file_of f) ≡ true → (i : ℕ) → i < (headers_in f).sections
    → string_ok (drop (section_name_offset f i) (section_strings f)) ≡ true
section-name-passes f ok i l =
    all-tab-at (section_name_offset f) (name_passes (section_strings f)) (headers_in f).sections i l (sym (section-names f) ∙ ok)

pub symbol-name-passes : (f : List ℕ) → TablesRuled f (file_of f) → maybe (file_of f).symbols true (symbol_table_ok f (file_of f)) ≡ true
    → (j : ℕ) → j < (elf_view f).symbols → string_ok (drop (symbol_name_offset f j) (symbol_strings f)) ≡ true
symbol-name-passes f r ok j l =
    all-tab-at (symbol_name_offset f) (name_passes (symbol_strings f)) (elf_view f).symbols j l (sym (symbol-names f r) ∙ ok)

-- ---- where they lie

-- the names at these offsets of the string table from a place up to another
abbrev pub names_pass : List ℕ → ℕ → ℕ → List ℕ → Bool
names_pass f start end offsets = all (λ o. string_ok (drop o (part f start (end - start)))) offsets

module _ (f : List ℕ) (r : TablesRuled f (file_of f)) where
  pub section-names-pass : section_names_ok f (file_of f)
      ≡ names_pass f (elf_view f).strings.sections (layout_of f).ends.sections (tab (section_name_offset f) (headers_in f).sections)
  section-names-pass =
      section-names f ∙ ap (λ (s : List ℕ). all (name_passes s) (tab (section_name_offset f) (headers_in f).sections)) (section-strings f r).bytes

  pub symbol-names-pass : maybe (file_of f).symbols true (symbol_table_ok f (file_of f))
      ≡ names_pass f (elf_view f).strings.symbols (layout_of f).ends.symbols (tab (symbol_name_offset f) (elf_view f).symbols)
  symbol-names-pass =
      symbol-names f r ∙ ap (λ (s : List ℕ). all (name_passes s) (tab (symbol_name_offset f) (elf_view f).symbols)) (symbol-strings f r).bytes
