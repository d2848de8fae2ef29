-- The relocations of a section by their records, where the index holds what it should.
use Rattle.std.proofs.Math.Path.{◌≡◌, sym, ap}
use Rattle.std.proofs.Common.{◌∙◌}
use Rattle.std.specs.Prelude.{get_or}
use Rattle.std.proofs.Math.Bool.{true}
use mathlib.Core.List.{List}
use Prim.Native.Nat.{ℕ, suc, ◌+◌, ◌*◌, ◌<◌, ◌≤◌}
use native.Mathlib.Omega.{arith}
use Rattle.std.proofs.Math.Dec.{eqb}
use Rattle.std.proofs.Math.ListN.{length}
use Rattle.lists.specs.Tab.{tab, tab-ext, rows}
use Rattle.model.specs.Bytes.{keep, each}
use Rattle.model.specs.Deposit.{all}
use Rattle.model.specs.Elf.{Header, header_of, file_of, file_relocs}
use Rattle.model.specs.ElfRefusals.{header_ok}
use Rattle.object.specs.View.{reloc_in}
use Rattle.elf_header.specs.Headers.{header_in, headers_in, sections-by-number}
use Rattle.elf_header.specs.Used.{table_places, places_for}
use Rattle.elf_layout.specs.Layout.{table_number, elf_view}
use Rattle.elf_records.specs.Elf.{index_at}
use Rattle.elf_object.specs.Inside.{TablesRuled, tables-in-use}
use Rattle.elf_object.specs.Placed.{row_ends, get_d_rows, placed-inside}
use Rattle.elf_object.specs.Indexed.{file_places, Indexed}
use Rattle.elf_object.specs.Relocated.{reloc_placed, relocs-placed, view-relocations, reloc-read}

module _ (f t : List ℕ) (r : TablesRuled f (file_of f)) (x : Indexed f t) (i : ℕ) (l : i < (headers_in f).sections) where
  -- those of section number i
  reloc-of-section : (k : ℕ) → k < length (file_places f i)
      → reloc_in f t (elf_view f) (length (rows (file_places f) i) + k) ≡ reloc_placed f (elf_view f).order (get_or (file_places f i) k 0)
  unfolding elf_view
  reloc-of-section k h =
      let m : ℕ = length (rows (file_places f) i) + k in
      let below : m < (elf_view f).relocations = rw (view-relocations f r) (omega (arith, row_ends (file_places f) i (headers_in f).sections l)) in
      let ok : all (header_ok (length f)) (tab (header_in f (headers_in f)) (headers_in f).sections) ≡ true =
      ap (all (header_ok (length f))) (sym (sections-by-number f)) ∙ r.sections
      in
      reloc-read f t m (get_or (file_places f i) k 0) (x.places m below ∙ get_d_rows (file_places f) i (headers_in f).sections k 0 l h)
      (placed-inside f (headers_in f) (table_number (file_of f)) i k ok h)

  own-places : each table_places (keep (λ t. eqb t.info (header_in f (headers_in f) i).index) (file_of f).relocations) ≡ file_places f i
  unfolding places_for header_of
  own-places =
      let e : 1 + i ≡ suc i = omega arith in
      ap (λ (j : ℕ). each table_places (keep (λ t. eqb t.info j) (file_of f).relocations)) e
      ∙ ap (λ (us : List Header). each table_places (keep (λ t. eqb t.info (suc i)) us)) (tables-in-use f)

  -- its relocations end before all do
  pub relocs-end : index_at t ((headers_in f).sections + (elf_view f).symbols + i) + index_at t (2 * (headers_in f).sections + (elf_view f).symbols + i) ≤ (elf_view f).relocations
  relocs-end = rw (x.firsts i l, x.counts i l, view-relocations f r) (row_ends (file_places f) i (headers_in f).sections l)

  pub section-relocs : tab (λ k. reloc_in f t (elf_view f) (index_at t ((headers_in f).sections + (elf_view f).symbols + i) + k)) (index_at t (2 * (headers_in f).sections + (elf_view f).symbols + i))
      ≡ file_relocs f (file_of f) (header_in f (headers_in f) i)
  unfolding elf_view
  section-relocs =
      rw (x.firsts i l, x.counts i l)
      (tab-ext _ (λ k. reloc_placed f (file_of f).order (get_or (file_places f i) k 0)) (length (file_places f i)) reloc-of-section
      ∙ sym (relocs-placed f (file_of f) (header_in f (headers_in f) i) (file_places f i) own-places))
