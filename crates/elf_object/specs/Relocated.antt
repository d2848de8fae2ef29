-- The relocations of a section by their places, and a relocation by its record.
use Rattle.std.proofs.Math.Path.{◌≡◌, refl, sym, ap, ap₂}
use Rattle.std.proofs.Common.{◌∙◌}
use Rattle.std.specs.Prelude.{Bool, false, get_or, None, Option}
use Rattle.std.proofs.Math.Bool.{true, cond}
use mathlib.Core.List.{List, [], ◌∷◌, ◌++◌, map, map-append}
use Prim.Native.Nat.{ℕ, ◌+◌, ◌*◌, ◌/◌, ◌%◌, ◌≤◌}
use native.Mathlib.Omega.{arith}
use Rattle.std.proofs.Math.Dec.{eqb}
use Rattle.std.proofs.Math.ListN.{length, get_or-map}
use Rattle.std.proofs.lemmas.List.{length-map}
use Rattle.lists.specs.Tab.{tab, tab-ext, is-tab, rows}
use Rattle.lists.specs.Walk.{map-tab}
use Rattle.model.specs.declared.Endianness.{Endianness}
use Rattle.model.specs.declared.SymbolIndex.{SymbolIndex}
use Rattle.model.specs.Bytes.{keep, each, part}
use Rattle.model.specs.LicenceVersion.{number}
use Rattle.model.specs.Deposit.{unless_none, reloc_of}
use Rattle.model.specs.Object.{Reloc}
use Rattle.model.specs.Elf.{field, Header, is_type, entry_size, entry_count, File, file_of, file_target, reloc_size, file_reloc, table_relocs, file_relocs}
use Rattle.records.specs.View.{relocation-elf}
use Rattle.object.specs.View.{reloc_in}
use Rattle.elf_laws.specs.Places.{part-part, relocs-tab}
use Rattle.elf_header.specs.Headers.{headers_in}
use Rattle.elf_header.specs.Used.{table_places}
use Rattle.elf_layout.specs.Layout.{elf_view}
use Rattle.elf_records.specs.Elf.{field_at, symbol_or_none, width_of, place_of, relocation_offset_at, relocation_symbol_at, elf_relocation}
use Rattle.elf_object.specs.Inside.{TablesRuled}
use Rattle.elf_object.specs.Placed.{relocations-placed}
use Rattle.elf_object.specs.Ranges.{field_in, field-first}
use Rattle.elf_object.specs.Indexed.{file_places}

-- the relocation at a place
abbrev pub reloc_placed : List ℕ → Endianness → ℕ → Reloc
reloc_placed f o q = file_reloc o (part f q 16)

-- an entry's first 16 bytes are all that is read of it
reloc-short : (f : List ℕ) (o : Endianness) (q w : ℕ) → 16 ≤ w → file_reloc o (part f q w) ≡ reloc_placed f o q
unfolding file_reloc
reloc-short f o q w l =
    let at : (k : ℕ) → k + 8 ≤ 16 → field o (part f q w) k 8 ≡ field o (part f q 16) k 8 = λ k m.
    ap (number o) (part-part f q w k 8 (omega arith) ∙ sym (part-part f q 16 k 8 m))
    in
    let offset : field o (part f q w) 0 8 ≡ field o (part f q 16) 0 8 = at 0 (omega arith) in
    let info : field o (part f q w) 8 8 ≡ field o (part f q 16) 8 8 = at 8 (omega arith) in
    λ k. record { offset = offset k; symbol = file_target (info k / 4294967296); size = reloc_size (info k % 4294967296) }

entry-wide : (t : Header) → 16 ≤ entry_size t
entry-wide t = go (is_type 9 t)
  where
    go : (b : Bool) → 16 ≤ cond b 16 24
    go true = omega arith
    go false = omega arith

module _ (f : List ℕ) (o : Endianness) where
  table-placed : (t : Header) → table_relocs f o t ≡ map (reloc_placed f o) (table_places t)
  unfolding table_places
  table-placed t =
      relocs-tab f o t
      ∙ tab-ext _ (λ k. reloc_placed f o (t.offset + entry_size t * k)) (entry_count t) (λ k l. reloc-short f o (t.offset + entry_size t * k) (entry_size t) (entry-wide t))
      ∙ sym (map-tab (λ k. t.offset + entry_size t * k) (entry_count t) (reloc_placed f o))

  tables-placed : (ts : List Header) → each (table_relocs f o) ts ≡ map (reloc_placed f o) (each table_places ts)
  unfolding each
  tables-placed [] = refl
  tables-placed (t ∷ ts) = ap₂ ◌++◌ (table-placed t) (tables-placed ts) ∙ sym (map-append (reloc_placed f o) (table_places t) (each table_places ts))

  -- the relocations at the places of a list, by number
  listed : (l : List ℕ) → map (reloc_placed f o) l ≡ tab (λ k. reloc_placed f o (get_or l k 0)) (length l)
  listed l =
      is-tab (map (reloc_placed f o) l) (λ k. reloc_placed f o (get_or l k 0)) (length l) (reloc_placed f o 0) (length-map l (reloc_placed f o))
      (λ k h. get_or-map (reloc_placed f o) l k 0)

-- the relocations of a section, by number
pub relocs-placed : (f : List ℕ) (p : File) (h : Header) (l : List ℕ) → each table_places (keep (λ t. eqb t.info h.index) p.relocations) ≡ l
    → file_relocs f p h ≡ tab (λ k. reloc_placed f p.order (get_or l k 0)) (length l)
unfolding file_relocs
relocs-placed f p h l e =
    tables-placed f p.order (keep (λ t. eqb t.info h.index) p.relocations) ∙ ap (map (reloc_placed f p.order)) e ∙ listed f p.order l

-- ---- by their records

pub view-relocations : (f : List ℕ) → TablesRuled f (file_of f) → (elf_view f).relocations ≡ length (rows (file_places f) (headers_in f).sections)
unfolding elf_view
view-relocations f r = relocations-placed f r

target_is : (y : ℕ) (b : Bool) → ◌≡◌ {A = Option SymbolIndex} (unless_none (cond b 4294967295 y) (record { 0 = cond b 4294967295 y })) (cond b None (unless_none y (record { 0 = y })))
target_is y true = refl
target_is y false = refl

module _ (f t : List ℕ) where
  -- the record of a relocation whose place the index holds
  pub reloc-read : (m q : ℕ) → place_of f t (elf_view f) m ≡ q → q + 16 ≤ length f → reloc_in f t (elf_view f) m ≡ reloc_placed f (elf_view f).order q
  unfolding reloc_in reloc_of elf_relocation relocation_offset_at relocation_symbol_at symbol_or_none width_of file_reloc elf_view
  reloc-read m q e fits =
      let o : Endianness = (elf_view f).order in
      let offset : field_at o f (place_of f t (elf_view f) m) 8 ≡ field o (part f q 16) 0 8 = ap (λ (p : ℕ). field_at o f p 8) e ∙ field-first f q 16 fits o 8 (omega arith) in
      let info : field_at o f (place_of f t (elf_view f) m + 8) 8 ≡ field o (part f q 16) 8 8 = ap (λ (p : ℕ). field_at o f (p + 8) 8) e ∙ field_in f q 16 fits o 8 8 (omega arith) in
      let y : ℕ = field o (part f q 16) 8 8 / 4294967296 in
      let target : ◌≡◌ {A = Option SymbolIndex} (unless_none (cond (eqb y 0) 4294967295 y) (record { 0 = cond (eqb y 0) 4294967295 y })) (file_target y) = target_is y (eqb y 0) in
      ap reloc_of (relocation-elf f t (elf_view f) refl m)
      ∙ (λ k. record {
        offset = offset k;
        symbol =
            unless_none (cond (eqb (info k / 4294967296) 0) 4294967295 (info k / 4294967296)) (record { 0 = cond (eqb (info k / 4294967296) 0) 4294967295 (info k / 4294967296) });
        size = reloc_size (info k % 4294967296);
      })
      ∙ (λ k. record { offset = field o (part f q 16) 0 8; symbol = target k; size = reloc_size (field o (part f q 16) 8 8 % 4294967296) })
