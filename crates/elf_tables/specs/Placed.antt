-- The layout by the number of the symbol table, and why its places fit 32 bits.
use Rattle.std.specs.Prelude.{◌≡◌, Bool, cond, ◌&&◌, ◌||◌, List, ℕ, ◌+◌, ◌-◌, ◌*◌, ◌/◌, ◌<◌, ◌≤◌, eqb, leb, length, None, Option, Some}
use Rattle.std.proofs.Math.Path.{refl}
use Rattle.std.proofs.Common.{ap, ◌∙◌, ⊎_elim, arith, leb-true, eqb-true, ne_eqb}
use Rattle.std.proofs.Math.Bool.{true, false}
use Rattle.std.proofs.lemmas.Bool.{eqb-false}
use Rattle.lists.specs.Tests.{both_true}
use Rattle.model.specs.Bytes.{maybe, inside}
use Rattle.model.specs.Deposit.{most_bytes, all}
use Rattle.model.specs.Elf.{Header, is_type, entry_count, whole_entries, section_numbered, File, file_of}
use Rattle.model.specs.ElfRefusals.{header_ok, links_strings, entries_of, limits_ok}
use Rattle.object_view.specs.declared.Form.{Form}
use Rattle.elf_header.specs.declared.FileHeader.{FileHeader}
use Rattle.elf_header.specs.declared.Headers.{Headers}
use Rattle.elf_header.specs.Headers.{header_in, file_header_of, headers_of, headers_in, sections-by-number, headers-present}
use Rattle.elf_layout.specs.declared.Layout.{Layout}
use Rattle.elf_layout.specs.Layout.{tables_ok, strings_start, table_symbols, symbols_start, table_number, elf_view, layout_of}
use Rattle.std.specs.declared.ops.Range.{Range}
use Rattle.elf_laws.specs.All.{all-tab-at}
use Rattle.elf_tables.specs.Walks.{find-hit}
use Rattle.elf_tables.specs.Numbered.{sections_by, section_by, table_by, has_section, numbered-none, HasNumber, number_is, numbered-zero, first-table, file_by}

-- where the string table of a number begins and ends
unfoldable pub strings_by : List Header → ℕ → Range ℕ
strings_by hs n =
    record {
      start = maybe (section_numbered hs n) 0 strings_start;
      end = maybe (section_numbered hs n) 0 (λ h. strings_start h + h.size);
    }

-- the number of the symbols' string table, 0 where there is no symbol table
abbrev pub table_link : Option Header → ℕ
table_link y = maybe y 0 (λ t. t.link)

unfoldable pub layout_by : Headers → File → ℕ → ℕ → Layout
layout_by h p table relocations =
    record {
      view =
          record {
            form = Form.Elf;
            order = h.order;
            sections = h.sections;
            symbols = maybe p.symbols 0 table_symbols;
            relocations = relocations;
            at =
                record {
                  sections = h.first;
                  symbols = maybe p.symbols 0 symbols_start;
                  relocations = 0;
                  names = 0;
                  bytes = 0;
                };
            strings = record { sections = (strings_by p.sections p.names).start; symbols = (strings_by p.sections (table_link p.symbols)).start };
          };
      ends = record { sections = (strings_by p.sections p.names).end; symbols = (strings_by p.sections (table_link p.symbols)).end };
      table = table;
    }

-- the places are those of a file of 16,777,216 bytes at most
pub record Reaches (h : Headers) (p : File) : Type 0 where
  pub headers : h.first ≤ 16777232
  pub names : (strings_by p.sections p.names).end ≤ 16777216
  pub strings : (strings_by p.sections (table_link p.symbols)).end ≤ 16777216
  pub symbols : maybe p.symbols 0 symbols_start ≤ 16777216
  pub few : maybe p.symbols 0 table_symbols ≤ 65536

-- ---- the layout of a file

-- no section has number 0
linked : {A : Type 0} (hs : List Header) (y : Option Header) (x : A) (g : Header → A) → section_numbered hs 0 ≡ None
    → maybe (section_numbered hs (table_link y)) x g ≡ maybe y x (λ t. maybe (section_numbered hs t.link) x g)
linked hs None x g e = rw e
linked hs (Some t) x g e = refl

pub layout-by : (f : List ℕ) → layout_of f ≡ layout_by (headers_in f) (file_of f) (table_number (file_of f)) (entries_of (file_of f).relocations)
unfolding layout_of elf_view layout_by strings_by headers_of file_header_of
layout-by f = rw (linked p.sections p.symbols 0 strings_start none-0, linked p.sections p.symbols 0 (λ t. strings_start t + t.size) none-0)
  where
    p : File
    p = file_of f

    none-0 : section_numbered (file_of f).sections 0 ≡ None
    none-0 = ap (λ (l : List Header). section_numbered l 0) (sections-by-number f) ∙ numbered-zero f (headers_in f)

-- ---- its places

-- a section that has data lies inside the file
lies : (len : ℕ) (x : Header) → len ≤ 16777216 → header_ok len x ≡ true → is_type 8 x ≡ false → strings_start x + x.size ≤ 16777216
unfolding header_ok
lies len x l e k =
    let (a, b) = both_true (leb x.size most_bytes) (is_type 8 x || (eqb x.size 0 || inside x.offset x.size len)) e in
    go (eqb x.size 0) (leb-true x.size most_bytes a) (rw k at b)
  where
    go : (b : Bool) → x.size ≤ 16777216 → (b || inside x.offset x.size len) ≡ true → cond b 0 x.offset + x.size ≤ 16777216
    go true s t = omega arith
    go false s t = let i : x.offset + x.size ≤ len = leb-true (x.offset + x.size) len t in omega arith

-- where it has two entries, the second begins inside it
second : (x : Header) → strings_start x + x.size ≤ 16777216 → symbols_start x ≤ 16777216
second x l = go (eqb (entry_count x - 1) 0) refl
  where
    many : (b : Bool) → 1 < x.size / cond b 16 24 → 24 ≤ x.size
    many true m = omega arith
    many false m = omega arith

    go : (b : Bool) → eqb (entry_count x - 1) 0 ≡ b → cond b 0 (x.offset + 24) ≤ 16777216
    go true e = omega arith
    go false e =
        let n : entry_count x - 1 ≡ 0 → ⊥ = eqb-false (entry_count x - 1) 0 e in
        let m : 24 ≤ x.size = many (eqb x.kind 9) (omega arith) in
        let z : x.size ≡ 0 → ⊥ = λ w. omega arith in
        let i : x.offset + x.size ≤ 16777216 = rw (ne_eqb x.size 0 z) at l in
        omega arith

module _ (f : List ℕ) (h : Headers) where
  -- a section that is no NOBITS, or none
  section-lies : length f ≤ 16777216 → all (header_ok (length f)) (sections_by f h) ≡ true
      → (n k : ℕ) → eqb k 8 ≡ false → (HasNumber f h n → maybe (section_by f h n) true (is_type k) ≡ true)
      → maybe (section_by f h n) 0 (λ t. strings_start t + t.size) ≤ 16777216
  section-lies short ok n k d is = go (has_section h n) refl
    where
      go : (b : Bool) → has_section h n ≡ b → maybe (section_by f h n) 0 (λ t. strings_start t + t.size) ≤ 16777216
      go false e = rw (numbered-none f h n e) (omega arith)
      go true e =
          let m = number_is f h n e in
          let t : is_type k (header_in f h (n - 1)) ≡ true = rw m.is at (is m) in
          let r : is_type 8 (header_in f h (n - 1)) ≡ false = ap (λ (c : ℕ). eqb c 8) (eqb-true (header_in f h (n - 1)).kind k t) ∙ d in
          rw m.is
          (lies (length f) (header_in f h (n - 1)) short (all-tab-at (header_in f h) (header_ok (length f)) h.sections (n - 1) (omega (arith, m.from, m.to)) ok) r)

  strings-linked : (n : ℕ) → links_strings (sections_by f h) n ≡ true → maybe (section_by f h n) true (is_type 3) ≡ true
  unfolding links_strings
  strings-linked n = go (section_by f h n)
    where
      go : (y : Option Header) → maybe y false (is_type 3) ≡ true → maybe y true (is_type 3) ≡ true
      go None e = refl
      go (Some t) e = e

  table-typed : maybe (section_by f h (table_by f h)) true (is_type 2) ≡ true
  table-typed = rw (← first-table f h) (⊎_elim (λ e. rw e) (λ t. rw t.is t.passes) (find-hit (header_in f h) (is_type 2) h.sections))

  table-strings : (y : Option Header) → maybe y true (λ t. links_strings (sections_by f h) t.link && whole_entries t) ≡ true
      → maybe (section_by f h (table_link y)) true (is_type 3) ≡ true
  table-strings None e = rw (numbered-zero f h)
  table-strings (Some t) e = let (a, b) = both_true (links_strings (sections_by f h) t.link) (whole_entries t) e in strings-linked t.link a

pub in_reach : (f : List ℕ) (p : FileHeader) →
    let h = headers_of (length f) p in
    tables_ok f (file_by f p h (table_by f h)) ≡ true → Reaches h (file_by f p h (table_by f h))
unfolding tables_ok limits_ok file_by strings_by headers_of
in_reach f p e =
    let (a, e₁) = both_true (leb 64 (length f)) _ e in
    let (b, e₂) = both_true (leb (length f) most_bytes && _) _ e₁ in
    let (c, e₃) = both_true (eqb p.count 0 || inside p.at (64 * p.count) (length f)) _ e₂ in
    let (d, e₄) = both_true (all (header_ok (length f)) (sections_by f h)) _ e₃ in
    let (n, e₅) = both_true (eqb p.count 0 || links_strings (sections_by f h) p.names) _ e₄ in
    let (y, r) = both_true (maybe (section_by f h (table_by f h)) true (λ t. links_strings (sections_by f h) t.link && whole_entries t)) _ e₅ in
    let (b₀, b₁) = both_true (leb (length f) most_bytes) _ b in
    let (b₂, b₃) = both_true (leb p.count 4097) _ b₁ in
    let (b₄, b₅) = both_true (leb (maybe (section_by f h (table_by f h)) 0 (λ t. entry_count t)) 65537) _ b₃ in
    let short : length f ≤ 16777216 = leb-true (length f) most_bytes b₀ in
    record {
      headers = omega (arith, headers-present (length f) p);
      names = section-lies f h short d p.names 3 refl (λ m. strings-linked f h p.names (named m n));
      strings = section-lies f h short d (table_link table) 3 refl (λ m. table-strings f h table y);
      symbols = inner table (section-lies f h short d (table_by f h) 2 refl (λ m. table-typed f h));
      few = less table (leb-true _ _ b₄);
    }
  where
    h : Headers
    h = headers_of (length f) p

    table : Option Header
    table = section_by f h (table_by f h)

    named : HasNumber f h p.names → (eqb p.count 0 || links_strings (sections_by f h) p.names) ≡ true → links_strings (sections_by f h) p.names ≡ true
    named m e = let z : p.count ≡ 0 → ⊥ = λ q. omega (arith, m.from, m.to) in rw (ne_eqb p.count 0 z) at e

    inner : (y : Option Header) → maybe y 0 (λ t. strings_start t + t.size) ≤ 16777216 → maybe y 0 symbols_start ≤ 16777216
    inner None l = l
    inner (Some t) l = second t l

    less : (y : Option Header) → maybe y 0 (λ t. entry_count t) ≤ 65537 → maybe y 0 table_symbols ≤ 65536
    less None l = omega arith
    less (Some t) l = omega arith
