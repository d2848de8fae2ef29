-- What checking a file answers: of one without a whole header, and of any other.
use Rattle.std.specs.Prelude.{◌≡◌, Bool, ◌&&◌, List, [], ℕ, ◌<◌, length, Result, Ok, Err, Option, Some, None}
use Rattle.model.specs.declared.Refusal.{Refusal}
use Rattle.elf_layout.specs.declared.Layout.{Layout}
use Rattle.std.proofs.Math.Path.{refl, ap}
use Rattle.std.proofs.Common.{sym, ◌∙◌}
use Rattle.std.proofs.Math.Bool.{true, false, cond}
use native.Mathlib.Omega.{arith}
use borrow.Author.Tests.{lt-leb}
use Rattle.lists.specs.Tab.{tab, tab-none}
use Rattle.model.specs.Bytes.{keep, find, first_in, maybe}
use Rattle.model.specs.Deposit.{all}
use Rattle.model.specs.declared.Endianness.{Endianness}
use Rattle.model.specs.Elf.{Header, file_order, section_numbered, File, file_of}
use Rattle.model.specs.ElfRefusals.{entry_ok, kind_ok, entries_of}
use Rattle.elf_ident.specs.FirstBytes.{first_bytes_ok}
use Rattle.elf_header.specs.Headers.{header_in, file_header_of, headers_of, headers_in}
use Rattle.elf_header.specs.Used.{used_by}
use Rattle.elf_layout.specs.Layout.{tables_ok, table_number, file_refusal, layout_of, checked_file}
use Rattle.elf_tables.specs.Numbered.{sections_by, table_by, first-table, file_by, file-by}
use Rattle.elf_tables.specs.Checked.{kind_by, kind-by, tables_by}
use Rattle.elf_tables.specs.Placed.{layout_by, layout-by}

module _ (f : List ℕ) where
  -- the file by the number of its first symbol table
  abbrev pub whole_file : File
  whole_file = file_by f (file_header_of f) (headers_in f) (table_by f (headers_in f))

  kind-is : kind_ok f (file_of f) ≡ kind_by f (headers_in f) (table_by f (headers_in f))
  kind-is = ap (kind_ok f) (file-by f) ∙ kind-by f (file_header_of f) (headers_in f) (table_by f (headers_in f))

  -- ---- a file without a whole header

  -- it has no sections
  kind-short : length f < 64 → kind_by f (headers_in f) (table_by f (headers_in f)) ≡ first_bytes_ok f (file_order f)
  unfolding kind_by headers_of file_header_of file_of find first_in keep all
  kind-short l =
      let z : (headers_in f).sections ≡ 0 = omega arith in
      go (sections_by f (headers_in f)) (ap (tab (header_in f (headers_in f))) z ∙ tab-none _)
    where
      left : (b : Bool) → (b && true) ≡ b
      left true = refl
      left false = refl

      o : Endianness
      o = file_order f

      table : ℕ
      table = table_by f (headers_in f)

      go : (hs : List Header) → hs ≡ []
          → (first_bytes_ok f o && (maybe (section_numbered hs table) true (entry_ok o) && all (entry_ok o) (keep (used_by table) hs))) ≡ first_bytes_ok f o
      go hs e = rw e (left (first_bytes_ok f o))

  pub checked-short : length f < 64
      → checked_file f ≡ cond (first_bytes_ok f (file_order f)) (Err (file_refusal 26)) (Err (file_refusal 25))
  unfolding checked_file tables_ok
  checked-short l = rw (kind-is, kind-short l, lt-leb 64 (length f) l)

  -- ---- any other

  unfoldable pub answer_by : Option ℕ → Result Layout Refusal
  answer_by (Some n) = Ok (layout_by (headers_in f) whole_file (table_by f (headers_in f)) n)
  answer_by None = Err (file_refusal 26)

  table_is : table_number whole_file ≡ table_by f (headers_in f)
  unfolding file_by table_by
  table_is = ap (λ (y : Option Header). maybe y 0 (λ t. t.index)) (sym (first-table f (headers_in f)))

  layout_is : layout_of f ≡ layout_by (headers_in f) whole_file (table_by f (headers_in f)) (entries_of whole_file.relocations)
  layout_is =
      layout-by f
      ∙ (λ k. layout_by (headers_in f) (file-by f k) (table_number (file-by f k)) (entries_of (file-by f k).relocations))
      ∙ ap (λ (t : ℕ). layout_by (headers_in f) whole_file t (entries_of whole_file.relocations)) table_is

  pub checked-by : checked_file f ≡ cond (kind_by f (headers_in f) (table_by f (headers_in f))) (answer_by (tables_by f whole_file)) (Err (file_refusal 25))
  unfolding checked_file tables_by answer_by
  checked-by =
      rw (kind-is, layout_is)
      (ap (λ (x : Result Layout Refusal). cond (kind_by f (headers_in f) (table_by f (headers_in f))) x (Err (file_refusal 25)))
      (ap (λ (p : File). cond (tables_ok f p) laid (Err (file_refusal 26))) (file-by f) ∙ go (tables_ok f whole_file)))
    where
      laid : Result Layout Refusal
      laid = Ok (layout_by (headers_in f) whole_file (table_by f (headers_in f)) (entries_of whole_file.relocations))

      go : (b : Bool) → cond b laid (Err (file_refusal 26)) ≡ answer_by (cond b (Some (entries_of whole_file.relocations)) None)
      go true = refl
      go false = refl

pub tables-ok : (f : List ℕ) (p : File) (n : ℕ) → tables_by f p ≡ Some n → tables_ok f p ≡ true
unfolding tables_by
tables-ok f p n e = go (tables_ok f p) e
  where
    go : (b : Bool) → cond b (Some (entries_of p.relocations)) None ≡ Some n → b ≡ true
    go true q = refl
    go false q = let z : ◌≡◌ {A = ℕ} 0 1 = cc in let no : ⊥ = omega arith in absurd no
