-- The symbols that the symbol records of a file's view stand for, where its index holds what it should.
use Rattle.std.specs.Prelude.{◌≡◌, Bool, true, false, cond, ◌&&◌, ◌||◌, List, ℕ, ◌+◌, ◌%◌, ◌<◌, leb, get_or, None, Option, Some}
use Rattle.std.proofs.Math.Path.{refl, ap}
use Rattle.std.proofs.Common.{◌∙◌, arith, leb-false, ne_eqb}
use Rattle.std.proofs.Math.Nat.{zero-add}
use Rattle.std.proofs.Math.Dec.{eqb}
use Rattle.std.proofs.Math.ListN.{length}
use Rattle.lists.specs.Tests.{both_false}
use Rattle.model.specs.declared.SectionIndex.{SectionIndex}
use Rattle.model.specs.declared.SymbolKind.{SymbolKind}
use Rattle.model.specs.Bytes.{is_some, maybe, u8}
use Rattle.model.specs.Deposit.{extent, unless_none, symbol_kind}
use Rattle.model.specs.Elf.{field, file_of, string_at, kind_by_type, symbol_section, is_definition, file_symbol}
use Rattle.model.specs.ElfRefusals.{symbol_table_ok}
use Rattle.object_view.specs.NoIndex.{no_index, is_none}
use Rattle.records.specs.View.{name_in, symbol_at, symbol-elf}
use Rattle.object.specs.View.{symbol_from}
use Rattle.elf_layout.specs.Layout.{elf_view}
use Rattle.elf_records.specs.Elf.{index_at, section_or_none, kind_of_info, definition_of, num, entry_at, symbol_section_at, symbol_address_at, symbol_name_at, elf_symbol}
use Rattle.elf_object.specs.Inside.{TablesRuled, view-sections, symbol_strings, symbols-few}
use Rattle.elf_object.specs.Indexed.{symbol_name_offset, Indexed}
use Rattle.elf_object.specs.Symbols.{entry_of_symbol, symbol-offset, EntryRead, entry_read, symbol-name-read}

section-or-none : (s : ℕ) → unless_none (section_or_none s).0 (section_or_none s) ≡ symbol_section s
unfolding section_or_none
section-or-none s = go (eqb s 0 || leb 65280 s) refl
  where
    go : (b : Bool) → (eqb s 0 || leb 65280 s) ≡ b
        → ◌≡◌ {A = Option SectionIndex} (unless_none (cond b no_index s) (record { 0 = cond b no_index s })) (cond b None (Some (record { 0 = s })))
    go true e = refl
    go false e =
        let l : s < 65280 = leb-false _ _ (both_false (eqb s 0) (leb 65280 s) e).1 in
        let q : eqb s 4294967295 ≡ false = ne_eqb s 4294967295 (λ z. let no : ⊥ = omega arith in no) in
        rw q

kind-of-info : (info : ℕ) → symbol_kind (kind_of_info info) ≡ kind_by_type (info % 16)
unfolding symbol_kind kind_of_info
kind-of-info info = go (eqb (info % 16) 2) (eqb (info % 16) 1)
  where
    go : (a b : Bool) → symbol_kind (cond a 1 (cond b 2 0)) ≡ cond a SymbolKind.Text (cond b SymbolKind.Data SymbolKind.Other)
    go true b = refl
    go false true = refl
    go false false = refl

definition-is : (info s : ℕ) → eqb (definition_of (kind_of_info info) (section_or_none s)) 1 ≡ is_definition (info % 16) (symbol_section s)
unfolding definition_of kind_of_info section_or_none
definition-is info s = go (eqb (info % 16) 2) (eqb (info % 16) 1) (eqb s 0 || leb 65280 s) refl
  where
    absent : (c : Bool) → (eqb s 0 || leb 65280 s) ≡ c → is_none (cond c no_index s) ≡ c
    absent true e = refl
    absent false e =
        let l : s < 65280 = leb-false _ _ (both_false (eqb s 0) (leb 65280 s) e).1 in
        ne_eqb s 4294967295 (λ z. let no : ⊥ = omega arith in no)

    present : (c : Bool) → eqb (cond c 0 1) 1 ≡ is_some (cond {A = Option SectionIndex} c None (Some (record { 0 = s })))
    present true = refl
    present false = refl

    go : (a b c : Bool) → (eqb s 0 || leb 65280 s) ≡ c
        → eqb (cond (eqb (cond a 1 (cond b 2 0)) 0 || is_none (cond c no_index s)) 0 1) 1 ≡ ((a || b) && is_some (cond {A = Option SectionIndex} c None (Some (record { 0 = s }))))
    go true b c e = rw (absent c e) (present c)
    go false true c e = rw (absent c e) (present c)
    go false false c e = refl

module _ (f t : List ℕ) (r : TablesRuled f (file_of f)) (named : maybe (file_of f).symbols true (symbol_table_ok f (file_of f)) ≡ true) (x : Indexed f t)
    (j : ℕ) (l : j < (elf_view f).symbols) where
  -- where the name lies
  pub symbol-name-at : (elf_symbol f t (elf_view f) j).name
      ≡ extent ((elf_view f).strings.symbols + symbol_name_offset f j) (length (string_at (symbol_strings f) (symbol_name_offset f j)))
  unfolding elf_symbol symbol_name_at
  symbol-name-at =
      let n : index_at t ((elf_view f).sections + j) ≡ length (string_at (symbol_strings f) (symbol_name_offset f j)) =
      ap (λ (s : ℕ). index_at t (s + j)) (view-sections f) ∙ x.symbol-lengths j l
      in
      rw ((entry_read f r j l).name, (symbol-name-read f r j l named).uncut, n)

  symbol-of-record : symbol_from f t (elf_view f) (elf_symbol f t (elf_view f) j) ≡ file_symbol (file_of f).order (symbol_strings f) (1 + j) (entry_of_symbol f j)
  unfolding symbol_from elf_symbol symbol_section_at symbol_address_at file_symbol elf_view
  symbol-of-record =
      let e : EntryRead f j = entry_read f r j l in
      let index : (j + 1) % 4294967296 ≡ 1 + j = omega (arith, symbols-few f r) in
      let section : unless_none (section_or_none (num f (elf_view f) (entry_at f (elf_view f) j + 6) 2)).0 (section_or_none (num f (elf_view f) (entry_at f (elf_view f) j + 6) 2))
      ≡ symbol_section (field (file_of f).order (entry_of_symbol f j) 6 2) =
      section-or-none (num f (elf_view f) (entry_at f (elf_view f) j + 6) 2) ∙ ap (λ (s : ℕ). symbol_section s) e.section
      in
      let name : name_in f (elf_view f) (elf_symbol f t (elf_view f) j).name ≡ string_at (symbol_strings f) (field (file_of f).order (entry_of_symbol f j) 0 4) =
      rw (symbol-name-at, zero-add, symbol-offset f j) (symbol-name-read f r j l named).bytes
      in
      let kind : symbol_kind (kind_of_info (get_or f (entry_at f (elf_view f) j + 4) 0)) ≡ kind_by_type (u8 (entry_of_symbol f j) 4 % 16) =
      kind-of-info (get_or f (entry_at f (elf_view f) j + 4) 0) ∙ ap (λ (b : ℕ). kind_by_type (b % 16)) e.info
      in
      let definition : eqb (definition_of (kind_of_info (get_or f (entry_at f (elf_view f) j + 4) 0)) (section_or_none (num f (elf_view f) (entry_at f (elf_view f) j + 6) 2))) 1
      ≡ is_definition (u8 (entry_of_symbol f j) 4 % 16) (symbol_section (field (file_of f).order (entry_of_symbol f j) 6 2)) =
      definition-is (get_or f (entry_at f (elf_view f) j + 4) 0) (num f (elf_view f) (entry_at f (elf_view f) j + 6) 2)
      ∙ (λ k. is_definition (e.info k % 16) (symbol_section (e.section k)))
      in
      λ k. record {
        index = record { 0 = index k };
        section = section k;
        name = name k;
        address = e.address k;
        size = e.size k;
        kind = kind k;
        definition = definition k;
      }

  -- a symbol by its record
  pub symbol-is : symbol_from f t (elf_view f) (symbol_at f t (elf_view f) j) ≡ file_symbol (file_of f).order (symbol_strings f) (1 + j) (entry_of_symbol f j)
  unfolding elf_view
  symbol-is = ap (symbol_from f t (elf_view f)) (symbol-elf f t (elf_view f) refl j) ∙ symbol-of-record
