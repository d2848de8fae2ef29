-- The sections of a file by number: the one of a number, the first symbol table, and the file that they make.
use Rattle.std.specs.Prelude.{◌≡◌, Bool, ◌&&◌, not, List, ℕ, ◌+◌, ◌-◌, ◌*◌, ◌<◌, ◌≤◌, length, None, Option, Some, MatchOption}
use Rattle.std.proofs.Math.Path.{refl}
use Rattle.std.proofs.Common.{sym, ◌∙◌}
use Rattle.std.proofs.Math.Bool.{true, false}
use Rattle.std.proofs.Math.Logic.{◌⊎◌, ⊎_elim, inl, inr}
use native.Mathlib.Omega.{arith}
use borrow.Author.Tests.{eq-eqb, ne_eqb, eqb-true, eqb-false, leb-true, leb-false, not-true}
use Rattle.std.proofs.Math.Dec.{eqb, leb}
use Rattle.lists.specs.Tab.{tab}
use Rattle.lists.specs.Tests.{both_true}
use Rattle.model.specs.Bytes.{keep, find, maybe}
use Rattle.model.specs.Elf.{Header, header_of, is_type, section_numbered, File, in_use, file_of}
use Rattle.elf_header.specs.declared.FileHeader.{FileHeader}
use Rattle.elf_header.specs.declared.Headers.{Headers}
use Rattle.elf_header.specs.Headers.{header_in, file_header_of, headers_of, headers_in, sections-by-number}
use Rattle.elf_header.specs.Used.{used_in}
use Rattle.elf_tables.specs.Walks.{find_none, find_first, Hit, find-hit}

-- the first 48 bytes of each header are present
abbrev pub Present : List ℕ → Headers → Type 0
Present f h = h.first + 64 * h.sections ≤ length f + 16

abbrev pub sections_by : List ℕ → Headers → List Header
sections_by f h = tab (header_in f h) h.sections

abbrev pub section_by : List ℕ → Headers → ℕ → Option Header
section_by f h n = section_numbered (sections_by f h) n

-- the number of the first symbol table, 0 where there is none
unfoldable pub table_by : List ℕ → Headers → ℕ
table_by f h = maybe (find (is_type 2) (sections_by f h)) 0 (λ t. t.index)

unfoldable pub has_section : Headers → ℕ → Bool
has_section h n = not (eqb n 0) && leb n h.sections

module _ (f : List ℕ) (h : Headers) (n : ℕ) where
  -- no section has number 0 or one past the last
  pub numbered-outside : (n ≡ 0) ⊎ (h.sections < n) → section_by f h n ≡ None
  unfolding header_of
  numbered-outside o =
      find_none (header_in f h) (λ t. eqb t.index n) h.sections
      (λ i l. ne_eqb (1 + i) n (λ q. ⊎_elim (λ (z : n ≡ 0). let no : ⊥ = omega arith in no) (λ (z : h.sections < n). let no : ⊥ = omega arith in no) o))

  pub numbered-within : 1 ≤ n → n ≤ h.sections → section_by f h n ≡ Some (header_in f h (n - 1))
  unfolding header_of
  numbered-within from to =
      find_first (header_in f h) (λ t. eqb t.index n) h.sections (n - 1) (omega arith) (λ i l. ne_eqb (1 + i) n (λ q. omega arith))
      (eq-eqb (1 + (n - 1)) n (omega arith))

  -- where the header of section n stands, counted from 0
  abbrev pub IndexBy : Option ℕ → Type 0
  IndexBy i = MatchOption i (section_by f h n ≡ None) (λ k. (k < h.sections) × (section_by f h n ≡ Some (header_in f h k)))

  pub numbered-none : has_section h n ≡ false → section_by f h n ≡ None
  unfolding has_section
  numbered-none e = numbered-outside (go (eqb n 0) refl e)
    where
      go : (b : Bool) → eqb n 0 ≡ b → (not b && leb n h.sections) ≡ false → (n ≡ 0) ⊎ (h.sections < n)
      go true z e = inl (eqb-true n 0 z)
      go false z e = inr (leb-false n h.sections e)

  -- what is known where there is a section of the number
  pub record HasNumber : Type 0 where
    pub from : 1 ≤ n
    pub to : n ≤ h.sections
    pub is : section_by f h n ≡ Some (header_in f h (n - 1))

  pub number_is : has_section h n ≡ true → HasNumber
  unfolding has_section
  number_is e =
      let (a, b) = both_true (not (eqb n 0)) (leb n h.sections) e in
      let nonzero : n ≡ 0 → ⊥ = eqb-false n 0 (not-true (eqb n 0) a) in
      let from : 1 ≤ n = omega arith in
      let to : n ≤ h.sections = leb-true n h.sections b in
      record { from = from; to = to; is = numbered-within from to }

module _ (f : List ℕ) (h : Headers) where
  pub numbered-zero : section_by f h 0 ≡ None
  numbered-zero = numbered-outside f h 0 (inl refl)

  -- the first symbol table is the section of its number
  pub first-table : find (is_type 2) (sections_by f h) ≡ section_by f h (table_by f h)
  unfolding table_by header_of has_section
  first-table = ⊎_elim (λ e. rw e (sym numbered-zero)) (λ t. rw t.is (sym (is-there t))) (find-hit (header_in f h) (is_type 2) h.sections)
    where
      is-there : (t : Hit (header_in f h) (is_type 2) h.sections) → section_by f h (1 + t.at) ≡ Some (header_in f h t.at)
      is-there t =
          find_first (header_in f h) (λ s. eqb s.index (1 + t.at)) h.sections t.at t.below (λ i l. ne_eqb (1 + i) (1 + t.at) (λ q. omega arith))
          (eq-eqb (1 + t.at) (1 + t.at) refl)

-- the file of a file header and section headers, whose first symbol table has that number
unfoldable pub file_by : List ℕ → FileHeader → Headers → ℕ → File
file_by f p h table =
    record {
      order = h.order;
      at = p.at;
      count = p.count;
      names = p.names;
      sections = sections_by f h;
      symbols = section_by f h table;
      relocations = used_in f h table;
    }

pub file-by : (f : List ℕ) → file_of f ≡ file_by f (file_header_of f) (headers_in f) (table_by f (headers_in f))
unfolding file_of file_by file_header_of headers_of table_by
file-by f = (λ k. found (sections-by-number f k)) ∙ (λ k. tabled (first-table f h k))
  where
    p : File
    p = file_of f

    h : Headers
    h = headers_in f

    made : List Header → Option Header → List Header → File
    made hs y ts = record { order = p.order; at = p.at; count = p.count; names = p.names; sections = hs; symbols = y; relocations = ts }

    found : List Header → File
    found hs = let y : Option Header = find (is_type 2) hs in made hs y (keep (in_use y) hs)

    tabled : Option Header → File
    tabled y = made (sections_by f h) y (used_in f h (table_by f h))
