-- An object that is not refused: its tables' numbers stand for records whose ranges lie inside their sections, and its parts were not refused.
use Rattle.model.specs.declared.ProgramSectionError.{ProgramSectionError}
use Rattle.std.specs.Prelude.{◌≡◌, Bool, cond, ◌||◌, not, eqb, leb, Err, None, Ok, Option, Some}
use Rattle.std.proofs.Math.Path.{refl, ap}
use Rattle.std.proofs.Common.{sym, ◌∙◌, inl, inr, ⊎_elim, le_of_suc-le-suc, eq-or-lt_of_le}
use Rattle.std.proofs.Math.Bool.{true, false}
use mathlib.Core.List.{List, [], ◌∷◌, map}
use Prim.Native.Nat.{ℕ, zero, suc, ◌+◌, ◌-◌, ◌%◌, ◌<◌, ◌≤◌}
use native.Mathlib.Omega.{arith}
use borrow.Author.Tests.{eqb-true, ltb-false, ltb-true, not-false}
use Rattle.std.proofs.Math.Dec.{ltb}
use Rattle.std.proofs.Math.ListN.{length}
use Rattle.lists.specs.Tab.{tab, rows}
use Rattle.lists.specs.Tests.{not_some, true-not-false, both_false}
use Rattle.model.specs.declared.Endianness.{Endianness}
use Rattle.object_view.specs.declared.View.{View}
use Rattle.model.specs.declared.EbpfSectionKind.{EbpfSectionKind as Kind}
use Rattle.model.specs.declared.ProgramSection.{ProgramSection}
use Rattle.model.specs.Bytes.{ascii, or_else, first_in, maybe, is_some, ◌∈◌}
use Rattle.model.specs.Object.{Reloc, Section, Symbol, Object}
use Rattle.model.specs.Instruction.{invalid_program_code}
use Rattle.model.specs.ProgramName.{program_of, from_str, section_number}
use Rattle.model.specs.SectionKind.{is_kind, kind_of}
use Rattle.model.specs.Symbols.{top, lies_in, symbols_of, program_symbols, defined_text, walk_of, first_named}
use Rattle.model.specs.Contents.{is_data, invalid_map_definition, record_of, program_offset, program_function, function_at as function_of}
use Rattle.model.specs.Refusals.{untargeted, of_section, of_symbol, of_number, reloc_refusal, licence_refusal, version_refusal, passes, is_empty, program_symbol_refusal, program_refusal, map_symbol_refusal, maps_refusal, shared_refusal, stop_refusal, text_refusal, kind_refusal, section_refusal, object_refusal}
use Rattle.model.specs.Table.{table_of}
use Rattle.stream.specs.Stream.{length-bytes}
use Rattle.guarantees.specs.OptionsAndLists.{or_else-none, refuse-none, first_in-none, ∈-++-left, ∈-++-right}
use Rattle.guarantees.specs.FirstHalf.{kind-is}
use Rattle.guarantees.specs.AcceptedObjects.{Met, stop-accepted}
use Rattle.catalogue_laws.specs.Numbers.{up_to}
use Rattle.catalogue_laws.specs.Groups.{all-below}
use Rattle.catalogue_laws.specs.ByNumber.{members, program_members, text_members, text_order, number_at, programs-by, symbols-by}
use Rattle.catalogue_laws.specs.Shared.{by_address}
use Rattle.catalogue_laws.specs.SectionsPrograms.{All, IndexesRising, all-kept, sections_in, programs_in}
use Rattle.catalogue_laws.specs.FunctionsMaps.{Inside, inside, inside-programs, inside-walk, function_numbers_in, maps_in, all-rows, all_found, all-sorted, all-∈}
use Rattle.catalogue_laws.specs.Tables.{table-members}
use Rattle.catalogue_laws.specs.Walk.{number_in, walk_refusal, walk-met, walk_numbers, text_function_of, met-address}
use Rattle.records.specs.declared.MapSource.{MapSource}
use Rattle.records.specs.View.{gap_of, section_at, symbol_at}
use Rattle.records.specs.Maps.{map_number_of, number_source}
use Rattle.records.specs.Readable.{Readable}
use Rattle.object.specs.View.{section_from, symbol_from, section_in, symbol_in, reloc_in, object_in, rising}
use Rattle.catalogue_numbers.specs.Numbers.{home_at, functions_from, maps_from, sections_from, programs_from, section_candidates, program_candidates, function_candidates, map_candidates, section_numbers, program_numbers, function_numbers, map_numbers, Named, first_of, count_of, Targeted}
use Rattle.catalogue_numbers.specs.Fits.{FunctionFits, MapFits}

-- ---- lists

tab-∈ : {A : Type 0} (f : ℕ → A) (i n : ℕ) → i < n → f i ∈ tab f n
unfolding tab
tab-∈ f i zero l = let no : ⊥ = omega arith in absurd no
tab-∈ f i (suc n) l =
    ⊎_elim (λ e. ∈-++-right (f i) (tab f n) (f n ∷ []) (inl (ap f e))) (λ m. ∈-++-left (f i) (tab f n) (f n ∷ []) (tab-∈ f i n m)) (eq-or-lt_of_le (le_of_suc-le-suc l))

∈-map : {A : Type 0} (f : ℕ → A) (x : ℕ) (l : List ℕ) → x ∈ l → f x ∈ map f l
∈-map f x [] m = absurd m
∈-map f x (y ∷ l) (inl e) = inl (ap f e)
∈-map f x (y ∷ l) (inr m) = inr (∈-map f x l m)

all_of : (P : ℕ → Type 0) (l : List ℕ) → ((x : ℕ) → x ∈ l → P x) → All P l
all_of P [] h = tt
all_of P (x ∷ l) h = (h x (inl refl), all_of P l (λ y m. h y (inr m)))

all_map : (P : ℕ → Type 0) (g : ℕ → ℕ) (l : List ℕ) → All (λ x. P (g x)) l → All P (map g l)
all_map P g [] a = tt
all_map P g (x ∷ l) a = (a.0, all_map P g l a.1)

-- what all candidates have, those of the table have
all-table : (P : ℕ → Type 0) (key : ℕ → List ℕ) (l : List ℕ) → All P l → All P (table_of key l)
all-table P key l a = all_of P (table_of key l) (λ x m. all-∈ P x l a (table-members key x l m))

-- ---- refusals

other-kind : (k m : Kind) (s : Section) → is_kind k (kind_of s) ≡ true → is_kind m k ≡ false → is_kind m (kind_of s) ≡ false
other-kind k m s e f = rw (kind-is k (kind_of s) e) f

section-fine : (o : Object) (s : Section) → is_kind Kind.BtfExt (kind_of s) ≡ false → section_refusal o s ≡ None → (reloc_refusal s ≡ None) × (kind_refusal o s ≡ None)
unfolding section_refusal
section-fine o s e h = or_else-none (reloc_refusal s) (kind_refusal o s) (rw e at h)

program-fine : (o : Object) (s : Section) → is_kind Kind.Program (kind_of s) ≡ true → kind_refusal o s ≡ None → program_refusal o s ≡ None
unfolding kind_refusal
program-fine o s e h = rw e at h

maps-fine : (o : Object) (s : Section) → is_kind Kind.Maps (kind_of s) ≡ true → kind_refusal o s ≡ None → maps_refusal o s ≡ None
unfolding kind_refusal
maps-fine o s e h = rw (other-kind Kind.Maps Kind.Program s e refl, e) at h

text-fine : (o : Object) (s : Section) → is_kind Kind.Text (kind_of s) ≡ true → kind_refusal o s ≡ None → text_refusal o s ≡ None
unfolding kind_refusal
text-fine o s e h = rw (other-kind Kind.Text Kind.Program s e refl, other-kind Kind.Text Kind.Maps s e refl, e) at h

not-unknown : (name : List ℕ) (s : Section) → of_number s (section_number (from_str name)) ≡ None → is_some (program_of name) ≡ true
unfolding from_str
not-unknown name s h = go (program_of name) h
  where
    go : (o : Option ProgramSection) → of_number s (section_number (maybe o (Err ProgramSectionError.InvalidProgramSection) Ok)) ≡ None → is_some o ≡ true
    go None q = not_some _ q
    go (Some v) q = refl

not-past : (d : List ℕ) (at n : ℕ) → passes d at n ≡ false → at + n ≤ length d
unfolding passes
not-past d at n h = ltb-false _ _ (both_false (ltb (length d) (at + n)) (ltb top (at + n)) h).0

has-target : (rs : List Reloc) → untargeted rs ≡ false → (x : Reloc) → x ∈ rs → is_some x.symbol ≡ true
unfolding untargeted
has-target [] e x m = absurd m
has-target (y ∷ rs) e x (inl q) = ap (λ z. is_some z.symbol) q ∙ some_of (is_some y.symbol) (both_false (not (is_some y.symbol)) (untargeted rs) e).0
  where
    some_of : (b : Bool) → not b ≡ false → b ≡ true
    some_of true e = refl
    some_of false e = true-not-false e
has-target (y ∷ rs) e x (inr m) = has-target rs (both_false (not (is_some y.symbol)) (untargeted rs) e).1 x m

all-targeted : (r : ℕ → Reloc) (n : ℕ) → untargeted (tab r n) ≡ false → (k : ℕ) → k < n → is_some (r k).symbol ≡ true
all-targeted r n h k l = has-target (tab r n) h (r k) (tab-∈ r k n l)

module _ (d t : List ℕ) (v : View) (ok : object_refusal (object_in d t v) ≡ None) where
  abbrev o : Object
  o = object_in d t v

  abbrev order : Endianness
  order = v.order

  abbrev sec : ℕ → Section
  sec = section_in d t v

  abbrev at : ℕ → Symbol
  at = symbol_in d t v

  -- ---- the parts

  split : (maybe (first_named (ascii "license") o.sections) None licence_refusal ≡ None)
      × (or_else (maybe (first_named (ascii "version") o.sections) None (version_refusal o.order)) (first_in (section_refusal o) o.sections) ≡ None)
  unfolding object_refusal
  split = or_else-none (maybe (first_named (ascii "license") o.sections) None licence_refusal) (or_else (maybe (first_named (ascii "version") o.sections) None (version_refusal o.order)) (first_in (section_refusal o) o.sections)) ok

  rest : (maybe (first_named (ascii "version") o.sections) None (version_refusal o.order) ≡ None) × (first_in (section_refusal o) o.sections ≡ None)
  rest = or_else-none (maybe (first_named (ascii "version") o.sections) None (version_refusal o.order)) (first_in (section_refusal o) o.sections) split.1

  section-at : (i : ℕ) → i < v.sections → section_refusal o (sec i) ≡ None
  unfolding object_in
  section-at i l = first_in-none (section_refusal o) (sec i) (tab sec v.sections) rest.1 (tab-∈ sec i v.sections l)

  module _ (i : ℕ) (l : i < v.sections) where
    program-at : is_kind Kind.Program (kind_of (sec i)) ≡ true → program_refusal o (sec i) ≡ None
    program-at e = program-fine o (sec i) e (section-fine o (sec i) (other-kind Kind.Program Kind.BtfExt (sec i) e refl) (section-at i l)).1

    maps-at : is_kind Kind.Maps (kind_of (sec i)) ≡ true → maps_refusal o (sec i) ≡ None
    maps-at e = maps-fine o (sec i) e (section-fine o (sec i) (other-kind Kind.Maps Kind.BtfExt (sec i) e refl) (section-at i l)).1

    text_at : is_kind Kind.Text (kind_of (sec i)) ≡ true → text_refusal o (sec i) ≡ None
    text_at e = text-fine o (sec i) e (section-fine o (sec i) (other-kind Kind.Text Kind.BtfExt (sec i) e refl) (section-at i l)).1

    reloc-at : is_kind Kind.BtfExt (kind_of (sec i)) ≡ false → reloc_refusal (sec i) ≡ None
    reloc-at e = (section-fine o (sec i) e (section-at i l)).0

  -- 8
  pub named : Named d t v
  unfolding program_refusal
  named i l e =
      not-unknown (sec i).name (sec i)
      (or_else-none (of_number (sec i) (section_number (from_str (sec i).name))) (or_else (of_section 9 (sec i) (is_empty (symbols_of o (sec i)))) (first_in (program_symbol_refusal (sec i)) (program_symbols o (sec i)))) (program-at i l e)).0

  -- 4
  pub targeted : Targeted d t v
  unfolding reloc_refusal section_from
  targeted i l e =
      let u : untargeted (sec i).relocs ≡ false = refuse-none (untargeted (sec i).relocs) 4 (sec i).index _ 0 (reloc-at i l (no-ext (is_kind Kind.Program (kind_of (sec i))) refl e)) in
      all-targeted (λ k. reloc_in d t v (first_of d t v i + k)) (count_of d t v i) u
    where
      no-ext : (b : Bool) → is_kind Kind.Program (kind_of (sec i)) ≡ b → (b || is_kind Kind.Text (kind_of (sec i))) ≡ true → is_kind Kind.BtfExt (kind_of (sec i)) ≡ false
      no-ext true p q = other-kind Kind.Program Kind.BtfExt (sec i) p refl
      no-ext false p q = other-kind Kind.Text Kind.BtfExt (sec i) q refl

  -- ---- what is known of a number

  data-length : (i : ℕ) → length (sec i).bytes ≡ (section_at d t v i).bytes.length
  unfolding section_from
  data-length i = length-bytes d (gap_of v) (v.at.bytes + (section_at d t v i).bytes.at) (section_at d t v i).bytes.length

  by-record : (j : ℕ) → ((at j).address ≡ (symbol_at d t v j).address) × ((at j).size ≡ (symbol_at d t v j).size)
  unfolding symbol_from
  by-record j = (refl, refl)

  abbrev section-list : List Section
  section-list = tab sec v.sections

  members-below : (i : ℕ) → All (λ j. j < v.symbols) (members order section-list at v.symbols (sec i))
  unfolding members
  members-below i = all-kept (λ j. j < v.symbols) (λ j. lies_in (sec i).index (at j).section) (up_to v.symbols) (all-below v.symbols)

  programs-below : (i : ℕ) → All (λ j. j < v.symbols) (program_members order section-list at v.symbols (sec i))
  unfolding program_members
  programs-below i = all-kept (λ j. j < v.symbols) _ (members order section-list at v.symbols (sec i)) (members-below i)

  -- ---- sections and programs

  pub sections-below : All (λ i. i < v.sections) (section_numbers d t v)
  unfolding section_numbers section_candidates sections_in
  sections-below = all-table (λ i. i < v.sections) _ (rows (sections_from d t v) v.sections) (all-rows (λ i. i < v.sections) (sections_from d t v) v.sections one)
    where
      one : (i : ℕ) → i < v.sections → All (λ k. k < v.sections) (sections_from d t v i)
      one i l = go (is_kind Kind.BtfExt (kind_of (sec i)))
        where
          go : (b : Bool) → All (λ k. k < v.sections) (cond b [] (i ∷ []))
          go true = tt
          go false = (l, tt)

  pub programs-listed : All (λ j. j < v.symbols) (program_numbers d t v)
  unfolding program_numbers program_candidates programs_in
  programs-listed = all-table (λ j. j < v.symbols) _ (rows (programs_from d t v) v.sections) (all-rows (λ j. j < v.symbols) (programs_from d t v) v.sections one)
    where
      one : (i : ℕ) → i < v.sections → All (λ k. k < v.symbols) (programs_from d t v i)
      one i l = go (is_kind Kind.Program (kind_of (sec i)))
        where
          go : (b : Bool) → All (λ k. k < v.symbols) (cond b (program_members order section-list at v.symbols (sec i)) [])
          go true = programs-below i
          go false = tt

  -- ---- functions

  program-fits : (i j : ℕ) → i < v.sections → is_kind Kind.Program (kind_of (sec i)) ≡ true → j < v.symbols → home_at d t v j ≡ i
      → program_symbol_refusal (sec i) (at j) ≡ None → FunctionFits d t v j
  unfolding program_symbol_refusal program_function function_of invalid_program_code symbol_from
  program-fits i j l e b q f =
      let start = program_offset (sec i) (at j) in
      let beyond = passes (sec i).bytes start (at j).size in
      let low = ltb (at j).address (sec i).address in
      let (u, z) = or_else-none (of_symbol 10 (sec i) (at j) (beyond || low)) (of_symbol 15 (sec i) (at j) (not (eqb ((at j).size % 8) 0))) f in
      let p : start + (at j).size ≤ length (sec i).bytes = not-past (sec i).bytes start (at j).size (both_false beyond low (refuse-none _ 10 (sec i).index (at j).index 0 u)).0 in
      let w : (symbol_at d t v j).address + (symbol_at d t v j).size ≤ (section_at d t v i).bytes.length = rw (data-length i) at p in
      record {
        symbol = b;
        home = rw q l;
        within = rw (q, e) w;
        whole = eqb-true _ _ (not-false _ (refuse-none _ 15 (sec i).index (at j).index 0 z));
      }

  met-fits : (i p j : ℕ) → i < v.sections → is_kind Kind.Program (kind_of (sec i)) ≡ false → number_in order section-list at v.symbols (sec i) p ≡ Some j
      → Met (sec i) p (at j) → home_at d t v j ≡ i → j < v.symbols → FunctionFits d t v j
  unfolding text_function_of function_of
  met-fits i p j l e f m q b =
      let a : (at j).address ≡ (sec i).address + p = met-address order section-list at v.symbols (sec i) p j f in
      let c : (at j).address - (sec i).address ≡ p = omega arith in
      let w : p + (symbol_at d t v j).size ≤ (section_at d t v i).bytes.length = rw (data-length i, (by-record j).1) at m.inside in
      record { symbol = b; home = rw q l; within = rw (q, e, c) w; whole = rw (by-record j).1 at m.eights }

  -- the symbols that a walk which is not refused meets
  walk-fits : (i : ℕ) → i < v.sections → is_kind Kind.Program (kind_of (sec i)) ≡ false
      → (n p : ℕ) → walk_refusal order section-list at v.symbols (sec i) n p ≡ None
      → All (λ j. home_at d t v j ≡ i → j < v.symbols → FunctionFits d t v j) (walk_numbers order section-list at v.symbols (sec i) n p)
  unfolding walk_numbers
  walk-fits i l e zero p r = tt
  walk-fits i l e (suc n) p r = go (ltb p (length (sec i).bytes)) refl (number_in order section-list at v.symbols (sec i) p) refl (λ j q. walk-fits i l e n (p + (at j).size) q)
    where
      go : (b : Bool) → ltb p (length (sec i).bytes) ≡ b → (m : Option ℕ) → number_in order section-list at v.symbols (sec i) p ≡ m
          → ((j : ℕ) → walk_refusal order section-list at v.symbols (sec i) n (p + (at j).size) ≡ None
          → All (λ k. home_at d t v k ≡ i → k < v.symbols → FunctionFits d t v k) (walk_numbers order section-list at v.symbols (sec i) n (p + (at j).size)))
          → All (λ j. home_at d t v j ≡ i → j < v.symbols → FunctionFits d t v j)
          (cond b (maybe m [] (λ j. j ∷ walk_numbers order section-list at v.symbols (sec i) n (p + (at j).size))) [])
      go false q m f more = tt
      go true q None f more = tt
      go true q (Some j) f more =
          let w = walk-met order section-list at v.symbols (sec i) n p j (ltb-true _ _ q) f in
          let (u, z) = or_else-none (stop_refusal (sec i) (record { at = p; met = Some (at j) })) (walk_refusal order section-list at v.symbols (sec i) n (p + (at j).size)) (sym w ∙ r) in
          (met-fits i p j l e f (stop-accepted (sec i) p (at j) u), more j z)

  text-refused : (i : ℕ) → text_refusal o (sec i) ≡ None → walk_refusal order section-list at v.symbols (sec i) (length (sec i).bytes) 0 ≡ None
  unfolding text_refusal walk_of walk_refusal object_in
  text-refused i e = (or_else-none (shared_refusal (sec i) [] (defined_text o (sec i))) (first_in (stop_refusal (sec i)) (walk_of o (sec i))) e).1

  program-refused : (i : ℕ) → program_refusal o (sec i) ≡ None → first_in (program_symbol_refusal (sec i)) (map at (program_members order section-list at v.symbols (sec i))) ≡ None
  unfolding program_refusal object_in
  program-refused i e =
      let (a, b) = or_else-none (of_number (sec i) (section_number (from_str (sec i).name))) (or_else (of_section 9 (sec i) (is_empty (symbols_of o (sec i)))) (first_in (program_symbol_refusal (sec i)) (program_symbols o (sec i)))) e in
      let (c, f) = or_else-none (of_section 9 (sec i) (is_empty (symbols_of o (sec i)))) (first_in (program_symbol_refusal (sec i)) (program_symbols o (sec i))) b in
      ap (first_in (program_symbol_refusal (sec i))) (sym (programs-by order section-list at v.symbols (sec i))) ∙ f

  text-below : (i : ℕ) → All (λ j. j < v.symbols) (text_order order section-list at v.symbols (sec i))
  unfolding text_order text_members
  text-below i = all-sorted (λ j. j < v.symbols) (by_address (λ j. (at j).address)) _ (all-kept (λ j. j < v.symbols) _ (members order section-list at v.symbols (sec i)) (members-below i))

  found_below : (i p j : ℕ) → number_in order section-list at v.symbols (sec i) p ≡ Some j → j < v.symbols
  found_below i p j e = go (leb ((sec i).address + p) top) e
    where
      go : (b : Bool) → cond b (number_at order section-list at v.symbols (sec i) ((sec i).address + p)) None ≡ Some j → j < v.symbols
      go true q = all_found (λ k. k < v.symbols) (λ k. eqb (at k).address ((sec i).address + p)) _ j (text-below i) q
      go false q = not_some j (sym q)

  walk-below : (i : ℕ) (n p : ℕ) → All (λ j. j < v.symbols) (walk_numbers order section-list at v.symbols (sec i) n p)
  unfolding walk_numbers
  walk-below i zero p = tt
  walk-below i (suc n) p = go (ltb p (length (sec i).bytes)) (number_in order section-list at v.symbols (sec i) p) refl (λ j. walk-below i n (p + (at j).size))
    where
      go : (b : Bool) (m : Option ℕ) → number_in order section-list at v.symbols (sec i) p ≡ m
          → ((j : ℕ) → All (λ k. k < v.symbols) (walk_numbers order section-list at v.symbols (sec i) n (p + (at j).size)))
          → All (λ k. k < v.symbols) (cond b (maybe m [] (λ j. j ∷ walk_numbers order section-list at v.symbols (sec i) n (p + (at j).size))) [])
      go false m f r = tt
      go true None f r = tt
      go true (Some j) f r = (found_below i p j f, r j)

  module _ (r : Readable d t v) where
    abbrev rise : IndexesRising order sec v.sections at v.symbols
    rise = rising d t v r.sections-rise

    abbrev in-section : ℕ → ℕ → Type 0
    in-section i j = Inside order sec v.sections at v.symbols i j

    programs-fit : (i : ℕ) → i < v.sections → is_kind Kind.Program (kind_of (sec i)) ≡ true → All (FunctionFits d t v) (program_members order section-list at v.symbols (sec i))
    programs-fit i l e =
        let js = program_members order section-list at v.symbols (sec i) in
        let f = program-refused i (program-at i l e) in
        all_of (FunctionFits d t v) js
        (λ j m. program-fits i j l e (all-∈ (λ k. k < v.symbols) j js (programs-below i) m)
        (all-∈ (in-section i) j js (inside-programs order sec v.sections at v.symbols rise i l) m).home_of
        (first_in-none (program_symbol_refusal (sec i)) (at j) (map at js) f (∈-map at j js m)))

    text-fits : (i : ℕ) → i < v.sections → is_kind Kind.Program (kind_of (sec i)) ≡ false → is_kind Kind.Text (kind_of (sec i)) ≡ true
        → All (FunctionFits d t v) (walk_numbers order section-list at v.symbols (sec i) (length (sec i).bytes) 0)
    text-fits i l p e =
        let js = walk_numbers order section-list at v.symbols (sec i) (length (sec i).bytes) 0 in
        let a = walk-fits i l p (length (sec i).bytes) 0 (text-refused i (text_at i l e)) in
        let b = inside-walk order sec v.sections at v.symbols rise i l (length (sec i).bytes) 0 in
        let c = walk-below i (length (sec i).bytes) 0 in
        all_of (FunctionFits d t v) js
        (λ j m. all-∈ (λ k. home_at d t v k ≡ i → k < v.symbols → FunctionFits d t v k) j js a m (all-∈ (in-section i) j js b m).home_of (all-∈ (λ k. k < v.symbols) j js c m))

    pub functions-fit : All (FunctionFits d t v) (function_numbers d t v)
    unfolding function_numbers function_candidates function_numbers_in
    functions-fit = all-table (FunctionFits d t v) _ (rows (functions_from d t v) v.sections) (all-rows (FunctionFits d t v) (functions_from d t v) v.sections one)
      where
        one : (i : ℕ) → i < v.sections → All (FunctionFits d t v) (functions_from d t v i)
        one i l = go (is_kind Kind.Program (kind_of (sec i))) refl (is_kind Kind.Text (kind_of (sec i))) refl
          where
            go : (b : Bool) → is_kind Kind.Program (kind_of (sec i)) ≡ b → (c : Bool) → is_kind Kind.Text (kind_of (sec i)) ≡ c
                → All (FunctionFits d t v)
                (cond b (program_members order section-list at v.symbols (sec i)) (cond c (walk_numbers order section-list at v.symbols (sec i) (length (sec i).bytes) 0) []))
            go true e c f = programs-fit i l e
            go false e true f = text-fits i l e f
            go false e false f = tt

    -- ---- maps

    map-fits : (i j : ℕ) → i < v.sections → j < v.symbols → home_at d t v j ≡ i → map_symbol_refusal (sec i) (at j) ≡ None → MapFits d t v (map_number_of v.sections (MapSource.Symbol j))
    unfolding map_symbol_refusal
    map-fits i j l b q f =
        let (u, z) = or_else-none (of_symbol 10 (sec i) (at j) (passes (sec i).bytes (at j).address (at j).size)) (of_symbol 16 (sec i) (at j) (invalid_map_definition (at j).size (record_of (sec i) (at j)))) f in
        let p : (at j).address + (at j).size ≤ length (sec i).bytes = not-past (sec i).bytes (at j).address (at j).size (refuse-none _ 10 (sec i).index (at j).index 0 u) in
        let w : (symbol_at d t v j).address + (symbol_at d t v j).size ≤ (section_at d t v i).bytes.length = rw (data-length i, (by-record j).0, (by-record j).1) at p in
        rw (number_source v.sections (MapSource.Symbol j) tt) (record { symbol = b; home = rw q l; within = rw q w })

    maps-refused : (i : ℕ) → maps_refusal o (sec i) ≡ None → first_in (map_symbol_refusal (sec i)) (map at (members order section-list at v.symbols (sec i))) ≡ None
    unfolding maps_refusal object_in
    maps-refused i e =
        let (a, b) = or_else-none (of_section 9 (sec i) (is_empty (symbols_of o (sec i)))) (first_in (map_symbol_refusal (sec i)) (symbols_of o (sec i))) e in
        ap (first_in (map_symbol_refusal (sec i))) (sym (symbols-by order section-list at v.symbols (sec i))) ∙ b

    legacy-fit : (i : ℕ) → i < v.sections → is_kind Kind.Maps (kind_of (sec i)) ≡ true → All (MapFits d t v) (map (λ j. map_number_of v.sections (MapSource.Symbol j)) (members order section-list at v.symbols (sec i)))
    legacy-fit i l e =
        let js = members order section-list at v.symbols (sec i) in
        let f = maps-refused i (maps-at i l e) in
        all_map (MapFits d t v) (λ j. map_number_of v.sections (MapSource.Symbol j)) js
        (all_of (λ j. MapFits d t v (map_number_of v.sections (MapSource.Symbol j))) js
        (λ j m. map-fits i j l (all-∈ (λ k. k < v.symbols) j js (members-below i) m) (all-∈ (in-section i) j js (inside order sec v.sections at v.symbols rise i l) m).home_of
        (first_in-none (map_symbol_refusal (sec i)) (at j) (map at js) f (∈-map at j js m))))

    data-fits : (i : ℕ) → i < v.sections → MapFits d t v (map_number_of v.sections (MapSource.Section i))
    data-fits i l = rw (number_source v.sections (MapSource.Section i) l) l

    pub maps-fit : All (MapFits d t v) (map_numbers d t v)
    unfolding map_numbers map_candidates maps_in
    maps-fit = all-table (MapFits d t v) _ (rows (maps_from d t v) v.sections) (all-rows (MapFits d t v) (maps_from d t v) v.sections one)
      where
        one : (i : ℕ) → i < v.sections → All (MapFits d t v) (maps_from d t v i)
        one i l = go (is_kind Kind.Maps (kind_of (sec i))) refl (is_data (kind_of (sec i)))
          where
            go : (b : Bool) → is_kind Kind.Maps (kind_of (sec i)) ≡ b → (c : Bool)
                → All (MapFits d t v) (cond b (map (λ j. map_number_of v.sections (MapSource.Symbol j)) (members order section-list at v.symbols (sec i))) (cond c (map_number_of v.sections (MapSource.Section i) ∷ []) []))
            go true e c = legacy-fit i l e
            go false e true = (data-fits i l, tt)
            go false e false = tt
