-- Where a file's headers, symbols and strings lie, and how many there are, if it passes 26 but for its names.
use Rattle.std.specs.Prelude.{◌≡◌, Bool, ◌&&◌, ◌||◌, List, [], ℕ, ◌+◌, ◌-◌, ◌*◌, ◌/◌, ◌<◌, ◌≤◌, min, leb, drop, None, Option, Some}
use Rattle.std.proofs.Math.Path.{refl}
use Rattle.std.proofs.Common.{sym, ap, ◌∙◌}
use Rattle.std.proofs.Math.Bool.{true, false, cond}
use native.Mathlib.Omega.{arith}
use borrow.Author.Tests.{leb-true, eqb-true, eqb-false, ne_eqb}
use Rattle.std.proofs.Math.Dec.{eqb}
use Rattle.std.proofs.Math.ListN.{length}
use Rattle.lists.specs.Tests.{true-not-false, both_true}
use Rattle.model.specs.Bytes.{keep, first_in, find, maybe, part, inside}
use Rattle.model.specs.Deposit.{most_bytes, all}
use Rattle.model.specs.Elf.{numbered_records, Header, header_of, is_type, entry_count, whole_entries, section_numbered, File, file_sections, file_of, file_data, strings_of}
use Rattle.model.specs.ElfRefusals.{header_ok, links_strings, symbol_table_ok, reloc_table_ok, entries_of, limits_ok, rules_ok}
use Rattle.elf_laws.specs.All.{all-tab-at}
use Rattle.elf_laws.specs.Rules.{Ruled, ruled}
use Rattle.elf_header.specs.Headers.{header_in, file_header_of, headers_of, headers_in, present_sections, sections-by-number}
use Rattle.elf_header.specs.Used.{used_by, used_in}
use Rattle.elf_layout.specs.Layout.{tables_ok, strings_start, strings_at, strings_end, table_symbols, symbols_start, table_number, elf_view, layout_of}
use Rattle.elf_object.specs.Found.{passed-found}

-- ---- the rules

-- 26 but for the names, rule by rule
pub record TablesRuled (f : List ℕ) (p : File) : Type 0 where
  pub long : 64 ≤ length f
  pub short : length f ≤ 16777216
  pub few-sections : p.count ≤ 4097
  pub few-symbols : maybe p.symbols 0 (λ t. entry_count t) ≤ 65537
  pub few-relocations : entries_of p.relocations ≤ 65536
  pub table : (eqb p.count 0 || inside p.at (64 * p.count) (length f)) ≡ true
  pub sections : all (header_ok (length f)) p.sections ≡ true
  pub link : (eqb p.count 0 || links_strings p.sections p.names) ≡ true
  pub symbols : maybe p.symbols true (λ t. links_strings p.sections t.link && whole_entries t) ≡ true
  pub relocations : all (reloc_table_ok p.sections) p.relocations ≡ true

pub tables-ruled : (f : List ℕ) (p : File) → tables_ok f p ≡ true → TablesRuled f p
unfolding tables_ok limits_ok
tables-ruled f p e =
    let (a, e₁) = both_true _ _ e in
    let (b, e₂) = both_true _ _ e₁ in
    let (c, e₃) = both_true _ _ e₂ in
    let (d, e₄) = both_true _ _ e₃ in
    let (g, e₅) = both_true _ _ e₄ in
    let (i, j) = both_true _ _ e₅ in
    let (k, b₁) = both_true _ _ b in
    let (l, b₂) = both_true _ _ b₁ in
    let (m, n) = both_true _ _ b₂ in
    record {
      long = leb-true _ _ a;
      short = leb-true _ _ k;
      few-sections = leb-true _ _ l;
      few-symbols = leb-true _ _ m;
      few-relocations = leb-true _ _ n;
      table = c;
      sections = d;
      link = g;
      symbols = i;
      relocations = j;
    }

symbols-linked : (f : List ℕ) (p : File) (y : Option Header) → maybe y true (symbol_table_ok f p) ≡ true
    → maybe y true (λ t. links_strings p.sections t.link && whole_entries t) ≡ true
unfolding symbol_table_ok
symbols-linked f p None e = refl
symbols-linked f p (Some t) e =
    let (a, b) = both_true (links_strings p.sections t.link) _ e in
    let c : whole_entries t ≡ true = (both_true (whole_entries t) _ b).0 in
    rw (a, c)

pub rules-tables : (f : List ℕ) (p : File) → rules_ok f p ≡ true → TablesRuled f p
rules-tables f p e =
    let r : Ruled f p = ruled f p e in
    record {
      long = r.long;
      short = r.short;
      few-sections = r.few-sections;
      few-symbols = r.few-symbols;
      few-relocations = r.few-relocations;
      table = r.table;
      sections = r.sections;
      link = r.link;
      symbols = symbols-linked f p p.symbols r.symbols;
      relocations = r.relocations;
    }

-- the REL and RELA tables in use, by their headers
pub tables-in-use : (f : List ℕ) → (file_of f).relocations ≡ used_in f (headers_in f) (table_number (file_of f))
unfolding file_of
tables-in-use f = ap (keep (used_by (table_number (file_of f)))) (sections-by-number f)

-- without entries there is no section
no-sections : (f : List ℕ) → (file_of f).count ≡ 0 → (file_of f).sections ≡ []
unfolding file_of file_sections numbered_records
no-sections f e =
    let p = file_of f in
    let z : min p.count ((length f + 16 - p.at) / 64) - 1 ≡ 0 = omega (arith, e) in
    ap (λ (j : ℕ). numbered_records (header_of p.order) 64 1 j (drop (p.at + 64) f)) z

-- a view has the file's byte order and its sections
pub view-order : (f : List ℕ) → (elf_view f).order ≡ (file_of f).order
unfolding elf_view
view-order f = refl

pub view-sections : (f : List ℕ) → (elf_view f).sections ≡ (headers_in f).sections
unfolding elf_view
view-sections f = refl

-- ---- string tables

-- a string table is a part of the file
pub record StringsIn (f s : List ℕ) (start end : ℕ) : Type 0 where
  pub rises : start ≤ end
  pub inside : end ≤ length f
  pub bytes : s ≡ part f start (end - start)

-- the bytes of a section that has some lie in the file
pub bytes_inside : (n : ℕ) (h : Header) → header_ok n h ≡ true → (h.kind ≡ 8 → ⊥) → 0 < h.size → h.offset + h.size ≤ n
unfolding header_ok
bytes_inside n h e k l = go (is_type 8 h) (eqb h.size 0) refl refl (both_true (leb h.size most_bytes) (is_type 8 h || (eqb h.size 0 || inside h.offset h.size n)) e).1
  where
    go : (a b : Bool) → is_type 8 h ≡ a → eqb h.size 0 ≡ b → (a || (b || inside h.offset h.size n)) ≡ true → h.offset + h.size ≤ n
    go true b p q r = absurd (k (eqb-true _ _ p))
    go false true p q r = let x : h.size ≡ 0 = eqb-true _ _ q in let no : ⊥ = omega arith in absurd no
    go false false p q r = leb-true _ _ r

strings-of : (f : List ℕ) (h : Header) → header_ok (length f) h ≡ true → h.kind ≡ 3 → StringsIn f (file_data f h) (strings_start h) (strings_start h + h.size)
unfolding file_data
strings-of f h ok k =
    let d : cond (is_type 8 h) [] (part f h.offset h.size) ≡ part f h.offset h.size =
    ap (λ (j : ℕ). cond (eqb j 8) [] (part f h.offset h.size)) k
    in
    go (eqb h.size 0) refl d
  where
    go : (b : Bool) → eqb h.size 0 ≡ b → cond (is_type 8 h) [] (part f h.offset h.size) ≡ part f h.offset h.size
        → StringsIn f (cond (is_type 8 h) [] (part f h.offset h.size)) (cond b 0 h.offset) (cond b 0 h.offset + h.size)
    go true e d =
        let z : h.size ≡ 0 = eqb-true _ _ e in
        let w : 0 + h.size - 0 ≡ 0 = omega arith in
        record { rises = omega arith; inside = omega arith; bytes = d ∙ ap (part f h.offset) z ∙ ap (part f 0) (sym w) }
    go false e d =
        let z : h.size ≡ 0 → ⊥ = eqb-false _ _ e in
        let w : h.offset + h.size - h.offset ≡ h.size = omega arith in
        record {
          rises = omega arith;
          inside = bytes_inside (length f) h ok (λ q. let no : ⊥ = omega arith in no) (omega arith);
          bytes = d ∙ ap (part f h.offset) (sym w);
        }

-- where the string table of a number lies, which a used link names
pub strings-linked : (f : List ℕ) (p : File) (n : ℕ) → all (header_ok (length f)) p.sections ≡ true → links_strings p.sections n ≡ true
    → StringsIn f (strings_of f p n) (strings_at p n) (strings_end p n)
unfolding strings_of links_strings
strings-linked f p n a e = go (section_numbered p.sections n) refl e
  where
    go : (x : Option Header) → section_numbered p.sections n ≡ x → maybe x false (is_type 3) ≡ true
        → StringsIn f (maybe x [] (file_data f)) (maybe x 0 strings_start) (maybe x 0 (λ h. strings_start h + h.size))
    go None i e = true-not-false (sym e)
    go (Some h) i e = strings-of f h (passed-found (header_ok (length f)) (λ h. eqb h.index n) p.sections h i a).1 (eqb-true _ _ e)

-- the strings of the sections' names, and those of the symbols'
abbrev pub section_strings : List ℕ → List ℕ
section_strings f = strings_of f (file_of f) (file_of f).names

abbrev pub symbol_strings : List ℕ → List ℕ
symbol_strings f = maybe (file_of f).symbols [] (λ t. strings_of f (file_of f) t.link)

no-strings : (f : List ℕ) → StringsIn f [] 0 0
no-strings f = record { rises = omega arith; inside = omega arith; bytes = refl }

module _ (f : List ℕ) (r : TablesRuled f (file_of f)) where
  pub section-strings : StringsIn f (section_strings f) (elf_view f).strings.sections (layout_of f).ends.sections
  unfolding elf_view layout_of strings_of find first_in
  section-strings = go (eqb (file_of f).count 0) refl r.link
    where
      p : File
      p = file_of f

      go : (b : Bool) → eqb p.count 0 ≡ b → (b || links_strings p.sections p.names) ≡ true
          → StringsIn f (strings_of f p p.names) (strings_at p p.names) (strings_end p p.names)
      go true c l =
          let q : (file_of f).sections ≡ [] = no-sections f (eqb-true _ _ c) in
          rw q (no-strings f)
      go false c l = strings-linked f p p.names r.sections l

  pub symbol-strings : StringsIn f (symbol_strings f) (elf_view f).strings.symbols (layout_of f).ends.symbols
  unfolding elf_view layout_of
  symbol-strings = go (file_of f).symbols r.symbols
    where
      p : File
      p = file_of f

      go : (y : Option Header) → maybe y true (λ t. links_strings p.sections t.link && whole_entries t) ≡ true
          → StringsIn f (maybe y [] (λ t. strings_of f p t.link)) (maybe y 0 (λ t. strings_at p t.link)) (maybe y 0 (λ t. strings_end p t.link))
      go None e = no-strings f
      go (Some t) e = strings-linked f p t.link r.sections (both_true _ _ e).0

  -- ---- how many, and where

  pub sections-few : (headers_in f).sections ≤ 4096
  unfolding headers_of file_header_of
  sections-few = omega (arith, r.few-sections)

  pub symbols-few : (elf_view f).symbols ≤ 65536
  unfolding elf_view
  symbols-few = go (file_of f).symbols r.few-symbols
    where
      go : (y : Option Header) → maybe y 0 (λ t. entry_count t) ≤ 65537 → maybe y 0 table_symbols ≤ 65536
      go None l = omega arith
      go (Some t) l = omega arith

  pub relocations-few : (elf_view f).relocations ≤ 65536
  unfolding elf_view
  relocations-few = r.few-relocations

  pub headers-inside : (headers_in f).first + 64 * (headers_in f).sections ≤ length f
  unfolding headers_of file_header_of
  headers-inside = go (eqb (present_sections (length f) (file_header_of f)) 0) (eqb (file_of f).count 0) refl refl r.table
    where
      go : (a b : Bool) → eqb (present_sections (length f) (file_header_of f)) 0 ≡ a → eqb (file_of f).count 0 ≡ b
          → (b || inside (file_of f).at (64 * (file_of f).count) (length f)) ≡ true
          → cond a 0 ((file_of f).at + 64) + 64 * present_sections (length f) (file_header_of f) ≤ length f
      go true b p q t = let z : present_sections (length f) (file_header_of f) ≡ 0 = eqb-true _ _ p in omega arith
      go false true p q t =
          let z : present_sections (length f) (file_header_of f) ≡ 0 → ⊥ = eqb-false _ _ p in
          let c : (file_of f).count ≡ 0 = eqb-true _ _ q in
          let no : ⊥ = omega arith in
          absurd no
      go false false p q t =
          let z : present_sections (length f) (file_header_of f) ≡ 0 → ⊥ = eqb-false _ _ p in
          let l : (file_of f).at + 64 * (file_of f).count ≤ length f = leb-true _ _ t in
          omega arith

  -- each header passes
  pub header-passes : (i : ℕ) → i < (headers_in f).sections → header_ok (length f) (header_in f (headers_in f) i) ≡ true
  header-passes i l = all-tab-at (header_in f (headers_in f)) (header_ok (length f)) (headers_in f).sections i l (rw sections-by-number at r.sections)

  -- the symbol table, where there is one
  pub symbol-table : (t : Header) → (file_of f).symbols ≡ Some t → (t.kind ≡ 2) × (header_ok (length f) t ≡ true)
  unfolding file_of
  symbol-table t e =
      let (k, ok) = passed-found (header_ok (length f)) (is_type 2) (file_of f).sections t e r.sections in
      (eqb-true _ _ k, ok)

  pub symbols-inside : (elf_view f).at.symbols + 24 * (elf_view f).symbols ≤ length f
  unfolding elf_view
  symbols-inside = go (file_of f).symbols refl
    where
      some-inside : (t : Header) (b : Bool) → eqb (table_symbols t) 0 ≡ b → t.kind ≡ 2 → header_ok (length f) t ≡ true
          → cond b 0 (t.offset + 24) + 24 * table_symbols t ≤ length f
      some-inside t true e k ok = let z : table_symbols t ≡ 0 = eqb-true _ _ e in omega arith
      some-inside t false e k ok =
          let z : table_symbols t ≡ 0 → ⊥ = eqb-false _ _ e in
          let w : eqb t.kind 9 ≡ false = ne_eqb t.kind 9 (λ q. let no : ⊥ = omega arith in no) in
          let m : entry_count t ≡ t.size / 24 = rw w in
          let l : t.offset + t.size ≤ length f = bytes_inside (length f) t ok (λ q. let no : ⊥ = omega arith in no) (omega arith) in
          omega arith

      go : (y : Option Header) → (file_of f).symbols ≡ y → maybe y 0 symbols_start + 24 * maybe y 0 table_symbols ≤ length f
      go None e = omega arith
      go (Some t) e = let (k, ok) = symbol-table t e in some-inside t (eqb (table_symbols t) 0) refl k ok
