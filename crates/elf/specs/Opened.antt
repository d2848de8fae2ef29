-- What opening a file that was checked answers, and what its index is good for.
use Rattle.std.specs.Prelude.{◌≡◌, refl, Bool, true, false, cond, List, ℕ, ◌+◌, ◌*◌, ◌≤◌, Err, Ok, Result}
use Rattle.std.proofs.Common.{◌∙◌, arith}
use Rattle.model.specs.declared.Refusal.{Refusal}
use Rattle.model.specs.Bytes.{maybe}
use Rattle.model.specs.Deposit.{has_btf}
use Rattle.model.specs.Elf.{file_of, elf_object_of}
use Rattle.model.specs.ElfRefusals.{kind_ok, rules_ok, elf_refusal}
use Rattle.object_view.specs.declared.View.{View}
use Rattle.records.specs.Readable.{Readable}
use Rattle.object.specs.View.{object_in}
use Rattle.elf_header.specs.Headers.{headers_in}
use Rattle.elf_layout.specs.declared.Layout.{Layout}
use Rattle.elf_layout.specs.Layout.{tables_ok, elf_view, layout_of, file_refusal, checked_file}
use Rattle.elf_object.specs.Inside.{tables-ruled, sections-few, symbols-few, relocations-few}
use Rattle.elf.specs.Names.{names_ok, rules-by-names}

-- how many numbers the index of a file has
abbrev pub layout_length : Layout → ℕ
layout_length l = 3 * l.view.sections + l.view.symbols + l.view.relocations

abbrev pub index_length : Result Layout Refusal → ℕ
index_length (Err r) = 0
index_length (Ok l) = layout_length l

-- 25, 26 or 3 as its refusal, else its view
unfoldable pub opened_file : List ℕ → Result View Refusal
opened_file f = maybe (elf_refusal f) (Ok (elf_view f)) (λ r. Err r)

-- through the index t the view can be read, and its records stand for the file's object
pub record FileOpened (f t : List ℕ) (o : Result View Refusal) : Type 0 where
  pub is : o ≡ opened_file f
  pub readable : (v : View) → o ≡ Ok v → Readable f t v
  pub object : (v : View) → o ≡ Ok v → elf_object_of f ≡ object_in f t v

-- ---- what checking answered

pub record Passes (f : List ℕ) (l : Layout) : Type 0 where
  pub kind : kind_ok f (file_of f) ≡ true
  pub tables : tables_ok f (file_of f) ≡ true
  pub layout : l ≡ layout_of f

layout-same : (l m : Layout) → ◌≡◌ {A = Result Layout Refusal} (Ok l) (Ok m) → l ≡ m
layout-same l m e = cc

refusal-same : (r q : Refusal) → ◌≡◌ {A = Result Layout Refusal} (Err r) (Err q) → r ≡ q
refusal-same r q e = cc

pub passes : (f : List ℕ) (l : Layout) → Ok l ≡ checked_file f → Passes f l
unfolding checked_file
passes f l e = go (kind_ok f (file_of f)) (tables_ok f (file_of f)) refl refl e
  where
    go : (a b : Bool) → kind_ok f (file_of f) ≡ a → tables_ok f (file_of f) ≡ b
        → Ok l ≡ cond a (cond b (Ok (layout_of f)) (Err (file_refusal 26))) (Err (file_refusal 25)) → Passes f l
    go true true p q e = record { kind = p; tables = q; layout = layout-same l (layout_of f) e }
    go true false p q e = cc
    go false b p q e = cc

-- a file that was refused then is refused so
pub refused-then : (f : List ℕ) (r : Refusal) → Err r ≡ checked_file f → Err r ≡ opened_file f
unfolding checked_file opened_file elf_refusal
refused-then f r e = go (kind_ok f (file_of f)) (tables_ok f (file_of f)) refl refl e
  where
    go : (a b : Bool) → kind_ok f (file_of f) ≡ a → tables_ok f (file_of f) ≡ b
        → Err r ≡ cond a (cond b (Ok (layout_of f)) (Err (file_refusal 26))) (Err (file_refusal 25)) → Err r ≡ opened_file f
    go true true p q e = cc
    go true false p q e = rw (p, rules-by-names f (file_of f), q, refusal-same r (file_refusal 26) e)
    go false b p q e = rw (p, refusal-same r (file_refusal 25) e)

most : (f : List ℕ) → (headers_in f).sections ≤ 4096 → (elf_view f).symbols ≤ 65536 → (elf_view f).relocations ≤ 65536 → layout_length (layout_of f) ≤ 143360
unfolding layout_of elf_view
most f s y r = omega (arith, s, y, r)

pub checked-most : (f : List ℕ) (c : Result Layout Refusal) → c ≡ checked_file f → index_length c ≤ 143360
checked-most f (Err r) e = omega arith
checked-most f (Ok l) e =
    let p = passes f l e in
    let r = tables-ruled f (file_of f) p.tables in
    rw p.layout (most f (sections-few f r) (symbols-few f r) (relocations-few f r))

-- ---- what opening answers

module _ (f : List ℕ) (l : Layout) (p : Passes f l) where
  -- by the names
  pub opened-names : names_ok f ≡ false → Err (file_refusal 26) ≡ opened_file f
  unfolding opened_file elf_refusal
  opened-names e = rw (p.kind, rules-by-names f (file_of f), p.tables, e)

  pub names-rules : names_ok f ≡ true → rules_ok f (file_of f) ≡ true
  names-rules e = rules-by-names f (file_of f) ∙ rw (p.tables, e)

  -- by number 3
  pub opened-btf : rules_ok f (file_of f) ≡ true → has_btf (elf_object_of f) ≡ true → Err (file_refusal 3) ≡ opened_file f
  unfolding opened_file elf_refusal
  opened-btf r b = rw (p.kind, r, b)

  pub opened_view : rules_ok f (file_of f) ≡ true → has_btf (elf_object_of f) ≡ false → Ok (elf_view f) ≡ opened_file f
  unfolding opened_file elf_refusal
  opened_view r b = rw (p.kind, r, b)
