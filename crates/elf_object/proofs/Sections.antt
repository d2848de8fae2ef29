-- The sections that the section records of a file's view stand for, where its index holds what it should.
use Rattle.std.specs.Prelude.{◌≡◌, Bool, true, false, cond, ◌&&◌, List, ℕ, ◌+◌, ◌/◌, ◌%◌, ◌<◌}
use Rattle.std.proofs.Math.Path.{refl, ap}
use Rattle.std.proofs.Common.{◌∙◌, zero-add, arith}
use Rattle.std.proofs.Math.Dec.{eqb}
use Rattle.std.proofs.Math.ListN.{length}
use Rattle.model.specs.Deposit.{extent}
use Rattle.model.specs.Elf.{header_of, file_of, file_data, string_at, text_mark, file_section}
use Rattle.model.specs.ElfRefusals.{section_names_ok}
use Rattle.records.specs.View.{name_in, data_in, section_at, section-elf}
use Rattle.object.specs.View.{section_from}
use Rattle.elf_header.specs.Headers.{headers_in}
use Rattle.elf_layout.specs.Layout.{elf_view}
use Rattle.elf_records.specs.Elf.{mark_of, data_range, section_index_at, num, header_at, section_name_at, elf_section}
use Rattle.elf_object.specs.Inside.{TablesRuled, section_strings, sections-few}
use Rattle.elf_object.proofs.Relocated.{section-relocs}
use Rattle.elf_object.specs.Indexed.{Indexed}
use Rattle.elf_object.specs.Sections.{header_of_file, HeaderRead, header_read, section-name-read, section-data-read}

text-mark : (sort flags : ℕ) → eqb (mark_of sort flags) 1 ≡ (eqb sort 1 && eqb (flags / 2 % 4) 3)
unfolding mark_of
text-mark sort flags = go (eqb sort 1 && eqb (flags / 2 % 4) 3)
  where
    go : (b : Bool) → eqb (cond b 1 0) 1 ≡ b
    go true = refl
    go false = refl

module _ (f t : List ℕ) (r : TablesRuled f (file_of f)) (named : section_names_ok f (file_of f) ≡ true) (x : Indexed f t) (i : ℕ) (l : i < (headers_in f).sections) where
  -- where the name lies
  pub section-name-at : (elf_section f t (elf_view f) i).name ≡ extent ((elf_view f).strings.sections + (header_of_file f i).name) (length (string_at (section_strings f) (header_of_file f i).name))
  unfolding elf_section section_name_at
  section-name-at =
      rw ((header_read f r i l).name, (section-name-read f r i l named).uncut, x.section-lengths i l)

  pub section-bytes-at : (elf_section f t (elf_view f) i).bytes ≡ data_range (header_of_file f i).kind (header_of_file f i).offset (header_of_file f i).size
  unfolding elf_section
  section-bytes-at = rw ((header_read f r i l).kind, (header_read f r i l).offset, (header_read f r i l).size)

  section-of-record : section_from f t (elf_view f) (elf_section f t (elf_view f) i) ≡ file_section f (file_of f) (section_strings f) (header_of_file f i)
  unfolding section_from elf_section section_index_at file_section header_of elf_view
  section-of-record =
      let h : HeaderRead f i = header_read f r i l in
      let index : (i + 1) % 4294967296 ≡ 1 + i = omega (arith, sections-few f r) in
      let mark : eqb (mark_of (num f (elf_view f) (header_at f (elf_view f) i + 4) 4) (num f (elf_view f) (header_at f (elf_view f) i + 8) 8)) 1 ≡ text_mark (header_of_file f i) =
      text-mark _ _ ∙ rw (h.kind, h.flags)
      in
      let name : name_in f (elf_view f) (elf_section f t (elf_view f) i).name ≡ string_at (section_strings f) (header_of_file f i).name =
      rw (section-name-at, zero-add) (section-name-read f r i l named).bytes
      in
      let bytes : data_in f (elf_view f) (elf_section f t (elf_view f) i).bytes ≡ file_data f (header_of_file f i) =
      rw (section-bytes-at, zero-add) (section-data-read f r i l).bytes
      in
      λ k. record {
        index = record { 0 = index k };
        text = mark k;
        name = name k;
        address = h.address k;
        size = h.size k;
        bytes = bytes k;
        relocs = section-relocs f t r x i l k;
      }

  -- a section by its record
  pub section-is : section_from f t (elf_view f) (section_at f t (elf_view f) i) ≡ file_section f (file_of f) (section_strings f) (header_of_file f i)
  unfolding elf_view
  section-is = ap (section_from f t (elf_view f)) (section-elf f t (elf_view f) refl i) ∙ section-of-record
