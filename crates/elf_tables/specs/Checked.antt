-- Numbers 25 and 26 in the parts and in the order in which they are checked.
use Rattle.std.specs.Prelude.{◌≡◌, Bool, ◌&&◌, ◌||◌, not, List, [], ◌∷◌, ◌++◌, ℕ, ◌+◌, ◌*◌, ◌/◌, ◌<◌, ◌≤◌, eqb, leb, length, take, None, Option, Some}
use Rattle.std.proofs.Math.Path.{refl}
use Rattle.std.proofs.Common.{sym, ap, ◌∙◌, arith, le-leb, leb-true}
use Rattle.std.proofs.Math.Bool.{true, false, cond}
use Rattle.lists.specs.Tab.{tab, tab-more}
use Rattle.lists.specs.Tests.{both_true}
use Rattle.model.specs.Bytes.{push, keep, maybe, starts_with, part, inside}
use Rattle.model.specs.Deposit.{most_bytes, all}
use Rattle.model.specs.Elf.{Header, is_relocations, entry_count, whole_entries, section_numbered, File}
use Rattle.model.specs.ElfRefusals.{field_is, first_seven, entry_ok, kind_ok, header_ok, links_strings, reloc_table_ok, entries_of, limits_ok}
use Rattle.elf_ident.specs.FirstBytes.{first_bytes_ok}
use Rattle.elf_header.specs.declared.FileHeader.{FileHeader}
use Rattle.elf_header.specs.declared.Headers.{Headers}
use Rattle.elf_header.specs.Headers.{header_in}
use Rattle.elf_header.specs.Used.{used_by, used_in}
use Rattle.elf_layout.specs.Layout.{tables_ok}
use Rattle.elf_laws.specs.All.{all-of-kept, all-tab}
use Rattle.elf_tables.specs.Walks.{all-not}
use Rattle.elf_tables.specs.Numbered.{sections_by, section_by, file_by}

-- ---- 25

-- a table in use passes the test
abbrev pub used_ok : ℕ → (Header → Bool) → Header → Bool
used_ok table ok x = not (used_by table x) || ok x

unfoldable pub kind_by : List ℕ → Headers → ℕ → Bool
kind_by f h table =
    first_bytes_ok f h.order
    && (maybe (section_by f h table) true (entry_ok h.order)
    && all (entry_ok h.order) (used_in f h table))

pub kind-by : (f : List ℕ) (p : FileHeader) (h : Headers) (table : ℕ) → kind_ok f (file_by f p h table) ≡ kind_by f h table
unfolding kind_ok kind_by first_bytes_ok file_by
kind-by f p h table =
    go (starts_with (take 7 f) (first_seven h.order)) (field_is h.order 2 1 (part f 16 2)) (field_is h.order 2 247 (part f 18 2))
    (field_is h.order 2 64 (part f 58 2)) (maybe (section_by f h table) true (entry_ok h.order) && all (entry_ok h.order) (used_in f h table))
  where
    go : (a b c d r : Bool) → (a && (b && (c && (d && r)))) ≡ ((a && (b && (c && d))) && r)
    go true true true d r = refl
    go true true false d r = refl
    go true false c d r = refl
    go false b c d r = refl

-- ---- 26

-- the length and the count of entries keep their limits, and the table of section headers lies inside the file
unfoldable pub room_ok : ℕ → FileHeader → Bool
room_ok length p = leb length most_bytes && (leb p.count 4097 && (eqb p.count 0 || inside p.at (64 * p.count) length))

-- the type of the section of a number
unfoldable pub linked_type : List Header → ℕ → Option ℕ
linked_type hs n = maybe (section_numbered hs n) None (λ t. Some t.kind)

-- a link names a section whose type passes the test
abbrev pub names_type : (ℕ → Bool) → Option ℕ → Bool
names_type p None = false
names_type p (Some k) = p k

pub links-strings : (hs : List Header) (n : ℕ) → links_strings hs n ≡ names_type (λ k. eqb k 3) (linked_type hs n)
unfolding links_strings linked_type
links-strings hs n = go (section_numbered hs n)
  where
    go : (y : Option Header) → maybe y false (λ t. eqb t.kind 3) ≡ names_type (λ k. eqb k 3) (maybe y None (λ t. Some t.kind))
    go None = refl
    go (Some t) = refl

pub links-data : (hs : List Header) (n : ℕ)
    → maybe (section_numbered hs n) false (λ t. not (is_relocations t)) ≡ names_type (λ k. not (eqb k 9 || eqb k 4)) (linked_type hs n)
unfolding linked_type
links-data hs n = go (section_numbered hs n)
  where
    go : (y : Option Header)
        → maybe y false (λ t. not (is_relocations t)) ≡ names_type (λ k. not (eqb k 9 || eqb k 4)) (maybe y None (λ t. Some t.kind))
    go None = refl
    go (Some t) = refl

-- the limit of a symbol table, its link and its entries
unfoldable pub symbol_table_fits : List Header → Option Header → Bool
symbol_table_fits hs y = leb (maybe y 0 (λ t. entry_count t)) 65537 && maybe y true (λ t. links_strings hs t.link && whole_entries t)

abbrev pub entries_fit : ℕ → Option ℕ
entries_fit n = cond (leb n 65536) (Some n) None

-- what a pass over the sections says
unfoldable pub counted_by : List ℕ → Headers → ℕ → Option ℕ
counted_by f h table =
    cond (all (header_ok (length f)) (sections_by f h) && all (reloc_table_ok (sections_by f h)) (used_in f h table))
    (entries_fit (entries_of (used_in f h table)))
    None

unfoldable pub tables_by : List ℕ → File → Option ℕ
tables_by f p = cond (tables_ok f p) (Some (entries_of p.relocations)) None

-- ---- two tests that hold at the same time

same_truth : (a b : Bool) → (a ≡ true → b ≡ true) → (b ≡ true → a ≡ true) → a ≡ b
same_truth true b h k = sym (h refl)
same_truth false true h k = k refl
same_truth false false h k = refl

regroup : (len cnt few rel tab hdr nam lnk tbl : Bool)
    → ((len && (cnt && (few && rel))) && (tab && (hdr && (nam && (lnk && tbl))))) ≡ ((len && (cnt && tab)) && (nam && ((few && lnk) && ((hdr && tbl) && rel))))
regroup len cnt few rel tab hdr nam lnk tbl =
    same_truth _ _
    (λ e.
    let (l, r) = both_true (len && (cnt && (few && rel))) _ e in
    let (e₁, l₁) = both_true len _ l in
    let (e₂, l₂) = both_true cnt _ l₁ in
    let (e₃, e₄) = both_true few rel l₂ in
    let (e₅, r₁) = both_true tab _ r in
    let (e₆, r₂) = both_true hdr _ r₁ in
    let (e₇, r₃) = both_true nam _ r₂ in
    let (e₈, e₉) = both_true lnk tbl r₃ in
    rw (e₁, e₂, e₃, e₄, e₅, e₆, e₇, e₈, e₉))
    (λ e.
    let (l, r) = both_true (len && (cnt && tab)) _ e in
    let (e₁, l₁) = both_true len _ l in
    let (e₂, e₅) = both_true cnt tab l₁ in
    let (e₇, r₁) = both_true nam _ r in
    let (s, r₂) = both_true (few && lnk) _ r₁ in
    let (e₃, e₈) = both_true few lnk s in
    let (t, e₄) = both_true (hdr && tbl) rel r₂ in
    let (e₆, e₉) = both_true hdr tbl t in
    rw (e₁, e₂, e₃, e₄, e₅, e₆, e₇, e₈, e₉))

cond_both : {A : Type 0} (a b : Bool) (x y : A) → cond (a && b) x y ≡ cond a (cond b x y) y
cond_both true b x y = refl
cond_both false b x y = refl

-- 26, each part in its turn
pub tables-by : (f : List ℕ) (p : FileHeader) (h : Headers) (table : ℕ) → 64 ≤ length f
    → tables_by f (file_by f p h table)
    ≡ cond (room_ok (length f) p)
    (cond (eqb p.count 0 || links_strings (sections_by f h) p.names)
    (cond (symbol_table_fits (sections_by f h) (section_by f h table)) (counted_by f h table) None)
    None)
    None
unfolding tables_by tables_ok limits_ok file_by room_ok symbol_table_fits counted_by
tables-by f p h table l =
    rw (le-leb 64 (length f) l, regroup len cnt few rel tbl hdr nam lnk rls)
    (cond_both (len && (cnt && tbl)) (nam && ((few && lnk) && ((hdr && rls) && rel))) entries None
    ∙ ap (λ (x : Option ℕ). cond (len && (cnt && tbl)) x None)
    (cond_both nam ((few && lnk) && ((hdr && rls) && rel)) entries None
    ∙ ap (λ (x : Option ℕ). cond nam x None)
    (cond_both (few && lnk) ((hdr && rls) && rel) entries None
    ∙ ap (λ (x : Option ℕ). cond (few && lnk) x None) (cond_both (hdr && rls) rel entries None))))
  where
    hs : List Header
    hs = sections_by f h

    y : Option Header
    y = section_by f h table

    len : Bool
    len = leb (length f) most_bytes

    cnt : Bool
    cnt = leb p.count 4097

    few : Bool
    few = leb (maybe y 0 (λ t. entry_count t)) 65537

    rel : Bool
    rel = leb (entries_of (used_in f h table)) 65536

    tbl : Bool
    tbl = eqb p.count 0 || inside p.at (64 * p.count) (length f)

    hdr : Bool
    hdr = all (header_ok (length f)) hs

    nam : Bool
    nam = eqb p.count 0 || links_strings hs p.names

    lnk : Bool
    lnk = maybe y true (λ t. links_strings hs t.link && whole_entries t)

    rls : Bool
    rls = all (reloc_table_ok hs) (used_in f h table)

    entries : Option ℕ
    entries = Some (entries_of (used_in f h table))

-- ---- the pass

entries-last : (u : Header → Bool) (x : Header) (l : List Header) → entries_of (keep u (l ++ (x ∷ []))) ≡ entries_of (keep u l) + cond (u x) (entry_count x) 0
unfolding keep entries_of
entries-last u x [] = go (u x)
  where
    go : (b : Bool) → entries_of (push b x []) ≡ 0 + cond b (entry_count x) 0
    go true = omega arith
    go false = refl
entries-last u x (y ∷ l) = go (u y) (entries-last u x l)
  where
    go : (b : Bool) → entries_of (keep u (l ++ (x ∷ []))) ≡ entries_of (keep u l) + cond (u x) (entry_count x) 0
        → entries_of (push b y (keep u (l ++ (x ∷ [])))) ≡ entries_of (push b y (keep u l)) + cond (u x) (entry_count x) 0
    go true h = rw h (omega arith)
    go false h = h

module _ (f : List ℕ) (h : Headers) (table : ℕ) where
  -- how many relocations the tables among the first i sections have
  abbrev pub entries_to : ℕ → ℕ
  entries_to i = entries_of (keep (used_by table) (tab (header_in f h) i))

  pub entries_none : entries_to 0 ≡ 0
  unfolding tab keep entries_of
  entries_none = refl

  pub entries-more : (i : ℕ) → entries_to (i + 1) ≡ entries_to i + cond (used_by table (header_in f h i)) (entry_count (header_in f h i)) 0
  entries-more i =
      ap (λ (l : List Header). entries_of (keep (used_by table) l)) (tab-more (header_in f h) i)
      ∙ entries-last (used_by table) (header_in f h i) (tab (header_in f h) i)

  pub count-header : (i : ℕ) → i < h.sections → header_ok (length f) (header_in f h i) ≡ false → counted_by f h table ≡ None
  unfolding counted_by
  count-header i l e = rw (all-not (header_in f h) (header_ok (length f)) h.sections i l e)

  pub count-table : (i : ℕ) → i < h.sections → used_ok table (reloc_table_ok (sections_by f h)) (header_in f h i) ≡ false → counted_by f h table ≡ None
  unfolding counted_by
  count-table i l e =
      rw (
        all-of-kept (used_by table) (reloc_table_ok (sections_by f h)) (sections_by f h),
        all-not (header_in f h) (used_ok table (reloc_table_ok (sections_by f h))) h.sections i l e,
      )
      (broken (all (header_ok (length f)) (sections_by f h)))
    where
      broken : (b : Bool) → cond (b && false) (entries_fit (entries_of (used_in f h table))) None ≡ None
      broken true = refl
      broken false = refl

  pub count-all : ((i : ℕ) → i < h.sections → header_ok (length f) (header_in f h i) ≡ true)
      → ((i : ℕ) → i < h.sections → used_ok table (reloc_table_ok (sections_by f h)) (header_in f h i) ≡ true)
      → counted_by f h table ≡ entries_fit (entries_to h.sections)
  unfolding counted_by
  count-all a b =
      rw (
        all-tab (header_in f h) (header_ok (length f)) h.sections a,
        all-of-kept (used_by table) (reloc_table_ok (sections_by f h)) (sections_by f h),
        all-tab (header_in f h) (used_ok table (reloc_table_ok (sections_by f h))) h.sections b,
      )

-- a header that 26 lets pass has few entries
pub few-entries : (len : ℕ) (x : Header) → header_ok len x ≡ true → entry_count x ≤ 16777216
unfolding header_ok
few-entries len x e = let (a, b) = both_true (leb x.size most_bytes) _ e in go (eqb x.kind 9) (leb-true x.size most_bytes a)
  where
    go : (b : Bool) → x.size ≤ 16777216 → x.size / cond b 16 24 ≤ 16777216
    go true l = omega arith
    go false l = omega arith
