-- The places of relocations: those of one section among those of all, as many as the tables in use have entries, and each inside the file.
use Rattle.std.specs.Prelude.{◌≡◌, refl, Bool, true, false, cond, ◌||◌, not, ◌⊎◌, ℕ, zero, suc, ◌+◌, ◌-◌, ◌*◌, ◌/◌, ◌<◌, ◌≤◌, eqb, leb, ltb, length, get_or, None, Option, Some}
use Rattle.std.proofs.Common.{sym, ap, ◌∙◌, inl, inr, ⊎_elim, not-suc-le-zero, le_of_suc-le-suc, eq-or-lt_of_le, arith, leb-true, le-leb, eqb-true, ltb-true, ltb-false, length-append, get_or-append-add}
use mathlib.Core.List.{List, [], ◌∷◌, ◌++◌}
use Rattle.std.proofs.lemmas.Bool.{eqb-false}
use Rattle.std.proofs.Math.ListN.{get_or-append}
use Rattle.lists.specs.Tab.{tab, length-tab, get_or-tab, rows, rows-suc, rows-le}
use Rattle.lists.specs.Tests.{true-not-false, both_true}
use Rattle.model.specs.Bytes.{keep, each, maybe}
use Rattle.model.specs.Deposit.{all}
use Rattle.model.specs.Elf.{Header, header_of, is_type, is_relocations, entry_size, entry_count, section_numbered, file_of}
use Rattle.model.specs.ElfRefusals.{header_ok, reloc_table_ok, entries_of}
use Rattle.elf_laws.specs.All.{all-tab}
use Rattle.elf_header.specs.declared.Headers.{Headers}
use Rattle.elf_header.specs.Headers.{header_in, headers_in, sections-by-number}
use Rattle.elf_header.specs.Used.{used_by, used_in, table_places, places_for}
use Rattle.elf_layout.specs.Layout.{table_number}
use Rattle.elf_relocations.specs.Placing.{Near, Tables, placed-all}
use Rattle.elf_object.specs.Found.{passed-weaker, passed-found, passed-kept, kept-tab, kept-passed}
use Rattle.elf_object.specs.Inside.{TablesRuled, tables-in-use, bytes_inside, headers-inside, header-passes}

-- ---- rows

module _ {A : Type 0} (g : ℕ → List A) where
  -- a row ends before the rows do
  pub row_ends : (i n : ℕ) → i < n → length (rows g i) + length (g i) ≤ length (rows g n)
  row_ends i n l =
      let e : length (rows g (suc i)) ≡ length (rows g i) + length (g i) = ap length (rows-suc g i) ∙ length-append (rows g i) (g i) in
      omega (arith, rows-le g (suc i) n l)

  -- element k of row i
  pub get_d_rows : (i n k : ℕ) (d : A) → i < n → k < length (g i) → get_or (rows g n) (length (rows g i) + k) d ≡ get_or (g i) k d
  get_d_rows i zero k d l h = absurd (not-suc-le-zero l)
  get_d_rows i (suc n) k d l h =
      ap (λ (r : List A). get_or r (length (rows g i) + k) d) (rows-suc g n)
      ∙ ⊎_elim
      (λ e. rw e (get_or-append-add (rows g n) (g n) k d))
      (λ m.
      get_or-append (rows g n) (g n) d (length (rows g i) + k) (omega (arith, row_ends i n m))
      ∙ get_d_rows i n k d m h)
      (eq-or-lt_of_le (le_of_suc-le-suc l))

-- ---- how many

module _ (f : List ℕ) (h : Headers) (n : ℕ) (ok : all (reloc_table_ok (tab (header_in f h) h.sections)) (used_in f h n) ≡ true) where
  -- a table in use belongs to a section that there is
  info-few : (i : ℕ) → i < h.sections → used_by n (header_in f h i) ≡ true → (header_in f h i).info ≤ h.sections
  unfolding header_of reloc_table_ok
  info-few i l u = named (header_in f h i) (kept-tab (reloc_table_ok hs) (used_by n) (header_in f h) h.sections i ok l u)
    where
      hs : List Header
      hs = tab (header_in f h) h.sections

      numbers : all (λ x. leb x.index h.sections) hs ≡ true
      numbers = all-tab (header_in f h) (λ x. leb x.index h.sections) h.sections (λ i l. le-leb (1 + i) h.sections (omega arith))

      named : (t : Header) → reloc_table_ok hs t ≡ true → t.info ≤ h.sections
      named t e = go (section_numbered hs t.info) refl (both_true (maybe (section_numbered hs t.info) false (λ x. not (is_relocations x))) _ e).0
        where
          go : (x : Option Header) → section_numbered hs t.info ≡ x → maybe x false (λ x. not (is_relocations x)) ≡ true → t.info ≤ h.sections
          go None q r = true-not-false (sym r)
          go (Some x) q r =
              let (a, b) = passed-found (λ x. leb x.index h.sections) (λ x. eqb x.index t.info) hs x q numbers in
              let i : x.index ≡ t.info = eqb-true _ _ a in
              let m : x.index ≤ h.sections = leb-true _ _ b in
              omega arith

  -- each entry of a table in use has a place
  pub length-places : entries_of (used_in f h n) ≡ length (rows (places_for f h n) h.sections)
  length-places = sym (placed-all f h n info-few)

-- ---- where

-- an entry of a table in use lies in the file
entry-inside : (n : ℕ) (t : Header) → header_ok n t ≡ true → is_relocations t ≡ true → (k : ℕ) → k < entry_count t → t.offset + entry_size t * k + 16 ≤ n
entry-inside n t ok rel k l = go (is_type 9 t) (is_type 4 t) refl refl rel l
  where
    go : (a b : Bool) → is_type 9 t ≡ a → is_type 4 t ≡ b → (a || b) ≡ true → k < t.size / cond a 16 24 → t.offset + cond a 16 24 * k + 16 ≤ n
    go true b p q r l =
        let e : t.kind ≡ 9 = eqb-true _ _ p in
        let m : t.offset + t.size ≤ n = bytes_inside n t ok (λ z. let no : ⊥ = omega arith in no) (omega arith) in
        omega arith
    go false true p q r l =
        let e : t.kind ≡ 4 = eqb-true _ _ q in
        let m : t.offset + t.size ≤ n = bytes_inside n t ok (λ z. let no : ⊥ = omega arith in no) (omega arith) in
        omega arith
    go false false p q r l = true-not-false (sym r)

places-inside : (n : ℕ) (ts : List Header) → all (header_ok n) ts ≡ true → all is_relocations ts ≡ true
    → (k : ℕ) → k < length (each table_places ts) → get_or (each table_places ts) k 0 + 16 ≤ n
unfolding all each table_places
places-inside n [] a b k l = absurd (not-suc-le-zero l)
places-inside n (t ∷ ts) a b k l =
    go (ltb k (length (table_places t))) refl
    (places-inside n ts (both_true (header_ok n t) (all (header_ok n) ts) a).1 (both_true (is_relocations t) (all is_relocations ts) b).1)
  where
    here : List ℕ
    here = table_places t

    rest : List ℕ
    rest = each table_places ts

    len : length here ≡ entry_count t
    len = length-tab _ (entry_count t)

    go : (c : Bool) → ltb k (length here) ≡ c → ((j : ℕ) → j < length rest → get_or rest j 0 + 16 ≤ n) → get_or (here ++ rest) k 0 + 16 ≤ n
    go true e more =
        let m : k < length here = ltb-true _ _ e in
        let p : get_or (here ++ rest) k 0 ≡ t.offset + entry_size t * k =
        get_or-append here rest 0 k m ∙ get_or-tab (λ j. t.offset + entry_size t * j) (entry_count t) k 0 (omega (arith, len))
        in
        rw p (entry-inside n t (both_true (header_ok n t) (all (header_ok n) ts) a).0 (both_true (is_relocations t) (all is_relocations ts) b).0 k (omega (arith, len)))
    go false e more =
        let m : length here ≤ k = ltb-false _ _ e in
        let j : ℕ = k - length here in
        let i : k ≡ length here + j = omega arith in
        let p : get_or (here ++ rest) k 0 ≡ get_or rest j 0 = ap (λ (x : ℕ). get_or (here ++ rest) x 0) i ∙ get_or-append-add here rest j 0 in
        let q : length (here ++ rest) ≡ length here + length rest = length-append here rest in
        rw p (more j (omega arith))

-- a table in use is a REL or RELA table
used-relocations : (f : List ℕ) (h : Headers) (n : ℕ) → all is_relocations (used_in f h n) ≡ true
used-relocations f h n =
    passed-weaker (used_by n) is_relocations (λ t e. (both_true (is_relocations t) _ e).0) (used_in f h n) (kept-passed (used_by n) (tab (header_in f h) h.sections))

-- a relocation lies in the file, its first 16 bytes being all that is read of it
pub placed-inside : (f : List ℕ) (h : Headers) (n i k : ℕ) → all (header_ok (length f)) (tab (header_in f h) h.sections) ≡ true
    → k < length (places_for f h n i) → get_or (places_for f h n i) k 0 + 16 ≤ length f
unfolding places_for
placed-inside f h n i k a l =
    let own : Header → Bool = λ t. eqb t.info (suc i) in
    let ok : all (header_ok (length f)) (used_in f h n) ≡ true = passed-kept (header_ok (length f)) (used_by n) (tab (header_in f h) h.sections) a in
    places-inside (length f) (keep own (used_in f h n)) (passed-kept (header_ok (length f)) own (used_in f h n) ok)
    (passed-kept is_relocations own (used_in f h n) (used-relocations f h n)) k l

-- ---- what elf_relocations asks

-- the entries of a table in use lie where a file can have them
table-near : (n : ℕ) (t : Header) → n ≤ 16777216 → header_ok n t ≡ true → is_relocations t ≡ true → Near t
table-near n t small ok rel = go (is_type 9 t) (is_type 4 t) (eqb t.size 0) refl refl refl rel
  where
    go : (a b c : Bool) → is_type 9 t ≡ a → is_type 4 t ≡ b → eqb t.size 0 ≡ c → (a || b) ≡ true → 0 < t.size / cond a 16 24 → t.offset + t.size ≤ 16777216
    go true b true p q z r m = let e : t.size ≡ 0 = eqb-true _ _ z in absurd (omega arith)
    go true b false p q z r m =
        let k : t.kind ≡ 9 = eqb-true _ _ p in
        let e : t.size ≡ 0 → ⊥ = eqb-false _ _ z in
        let l : t.offset + t.size ≤ n = bytes_inside n t ok (λ x. let no : ⊥ = omega arith in no) (omega arith) in
        omega arith
    go false true true p q z r m = let e : t.size ≡ 0 = eqb-true _ _ z in absurd (omega arith)
    go false true false p q z r m =
        let k : t.kind ≡ 4 = eqb-true _ _ q in
        let e : t.size ≡ 0 → ⊥ = eqb-false _ _ z in
        let l : t.offset + t.size ≤ n = bytes_inside n t ok (λ x. let no : ⊥ = omega arith in no) (omega arith) in
        omega arith
    go false false c p q z r m = true-not-false (sym r)

module _ (f : List ℕ) (r : TablesRuled f (file_of f)) where
  used-tables-pass : all (reloc_table_ok (tab (header_in f (headers_in f)) (headers_in f).sections)) (used_in f (headers_in f) (table_number (file_of f))) ≡ true
  used-tables-pass =
      ap (λ (ts : List Header). all (reloc_table_ok (tab (header_in f (headers_in f)) (headers_in f).sections)) ts) (sym (tables-in-use f))
      ∙ ap (λ (hs : List Header). all (reloc_table_ok hs) (file_of f).relocations) (sym (sections-by-number f))
      ∙ r.relocations

  -- there are as many relocations as places
  pub relocations-placed : entries_of (file_of f).relocations ≡ length (rows (places_for f (headers_in f) (table_number (file_of f))) (headers_in f).sections)
  relocations-placed = ap entries_of (tables-in-use f) ∙ length-places f (headers_in f) (table_number (file_of f)) used-tables-pass

  -- the relocations can be placed
  pub tables-placeable : Tables f (headers_in f) (table_number (file_of f))
  tables-placeable =
      record {
        present = omega (arith, headers-inside f r);
        few = rw (← tables-in-use f) r.few-relocations;
        settled = λ i l u.
            record {
              inside = info-few f (headers_in f) (table_number (file_of f)) used-tables-pass i l u;
              near = table-near (length f) (header_in f (headers_in f) i) r.short (header-passes f r i l) (both_true (is_relocations (header_in f (headers_in f) i)) _ u).0;
            };
      }
