-- What a refusal of an object, a patch list, a deposit or a file says: its number, and the places that document 01 says this number names.
use Rattle.model.specs.declared.VersionError.{VersionError}
use Rattle.model.specs.declared.ProgramSectionError.{ProgramSectionError}
use Rattle.model.specs.declared.ProgramSection.{ProgramSection}
use Rattle.model.specs.declared.LicenseError.{LicenseError}
use Rattle.std.specs.Prelude.{◌≡◌, Bool, cond, ◌&&◌, ◌||◌, not, ℕ, suc, ◌+◌, ◌≤◌, eqb, leb, length, Err, None, Ok, Option, Result, Some}
use Rattle.std.proofs.Math.Path.{refl}
use Rattle.std.proofs.Common.{sym, inl, inr, arith, leb-true}
use Rattle.std.proofs.Math.Bool.{true, false}
use Rattle.std.specs.Bool.{beq}
use mathlib.Core.List.{List, [], ◌∷◌}
use Rattle.std.proofs.Math.Dec.{ltb}
use Rattle.model.specs.declared.Endianness.{Endianness}
use Rattle.model.specs.declared.EbpfSectionKind.{EbpfSectionKind as Kind}
use Rattle.model.specs.declared.Refusal.{Refusal}
use Rattle.model.specs.Bytes.{ascii, same, or_else, first_in, find, maybe, is_some, ◌∈◌}
use Rattle.model.specs.Object.{Section, Symbol, Object, Patch}
use Rattle.model.specs.SectionKind.{is_kind, kind_of}
use Rattle.model.specs.ProgramName.{from_str, section_number}
use Rattle.model.specs.LicenceVersion.{parse_license, license_number, parse_version, version_number}
use Rattle.model.specs.Instruction.{invalid_program_code}
use Rattle.model.specs.Catalogue.{Map}
use Rattle.model.specs.Symbols.{lies_in, is_program, symbols_of, program_symbols, is_text, defined_text, Stop, walk_of, first_named}
use Rattle.model.specs.Contents.{program_offset, invalid_map_definition, record_of, catalogue_of}
use Rattle.model.specs.Refusals.{of_section, of_symbol, of_entry, of_number, is_empty, untargeted, passes, reloc_refusal, licence_refusal, version_refusal, program_symbol_refusal, program_refusal, map_symbol_refusal, maps_refusal, shared_refusal, stop_refusal, text_refusal, kind_refusal, section_refusal, object_refusal, bearers, place_refusal, bearer_refusal, entry_refusal, patch_refusal, refusal_of}
use Rattle.model.specs.Deposit.{frame_ok, stream_ok, object_of, has_btf, of_deposit, deposit_refusal}
use Rattle.model.specs.Elf.{file_of, elf_object_of}
use Rattle.model.specs.ElfRefusals.{kind_ok, rules_ok, elf_refusal}
use Rattle.guarantees.specs.WordsOfDemand3.{Input, object_read}
use Rattle.guarantees.specs.OptionsAndLists.{true-not-false, both_true, find-∈}
use Rattle.guarantees.specs.TableLaws.{keep-∈}
use Rattle.guarantees.specs.AcceptedObjects.{stop-∈}
use Rattle.guarantees.specs.AcceptedInputs.{input_refusal}
use Rattle.guarantees.specs.RefusalPlaces.{EntryPlace, NumberFor, Says, SectionPlace, SymbolPlace, VerdictNumber, names_entry, names_section, names_symbol}

-- ---- ways to join refusals

beq-is : (a b : Bool) → beq a b ≡ true → a ≡ b
beq-is true true e = refl
beq-is true false e = true-not-false (sym e)
beq-is false true e = true-not-false (sym e)
beq-is false false e = refl

-- a number that names a section, a symbol, an entry or not
abbrev fitting : Bool → Bool → Bool → ℕ → Bool
fitting i y e n = beq (names_section n) i && (beq (names_symbol n) y && beq (names_entry n) e)

-- the numbers of an object and a patch list
abbrev pub of_object : ℕ → Bool
of_object n = leb 4 n && leb n 23

module _ (P : ℕ → Type 0) (within : (n : ℕ) → of_object n ≡ true → P n) (o : Object) (ps : List Patch) where
  none-says : Says P o ps None
  none-says = record { said = tt }

  or-says : {a b : Option Refusal} → Says P o ps a → Says P o ps b → Says P o ps (or_else a b)
  or-says {a} {b} h k = go a h
    where
      go : (a : Option Refusal) → Says P o ps a → Says P o ps (or_else a b)
      go None h = k
      go (Some r) h = h

  first_says : {A : Type 0} (f : A → Option Refusal) (xs : List A) → ((x : A) → x ∈ xs → Says P o ps (f x)) → Says P o ps (first_in f xs)
  unfolding first_in
  first_says f [] h = none-says
  first_says f (x ∷ xs) h = or-says (h x (inl refl)) (first_says f xs (λ y m. h y (inr m)))

  maybe-says : {A : Type 0} (m : Option A) (a : Option Refusal) (f : A → Option Refusal) → Says P o ps a → ((x : A) → m ≡ Some x → Says P o ps (f x)) → Says P o ps (maybe m a f)
  maybe-says None a f h k = h
  maybe-says (Some x) a f h k = k x refl

  places : (r : Refusal) (i y e : Bool) → P r.number → fitting i y e r.number ≡ true → SectionPlace o r.section i → SymbolPlace o r.symbol y
      → EntryPlace ps r.entry e → Says P o ps (Some r)
  places r i y e a t p q w =
      let n = r.number in
      let (f, g) = both_true (beq (names_section n) i) (beq (names_symbol n) y && beq (names_entry n) e) t in
      let (h, k) = both_true (beq (names_symbol n) y) (beq (names_entry n) e) g in
      record {
        said = (
          a,
          record {
            section = rw (beq-is (names_section n) i f) p;
            symbol = rw (beq-is (names_symbol n) y h) q;
            entry = rw (beq-is (names_entry n) e k) w;
          },
        );
      }

  -- a refusal of each sort
  of-input : (n : ℕ) (b : Bool) → P n → fitting false false false n ≡ true → Says P o ps (of_deposit n b)
  of-input n true a t = places _ false false false a t refl refl refl
  of-input n false a t = none-says

  -- 4 to 23
  of-object : (r : Refusal) (i y e : Bool) → (of_object r.number && fitting i y e r.number) ≡ true → SectionPlace o r.section i → SymbolPlace o r.symbol y
      → EntryPlace ps r.entry e → Says P o ps (Some r)
  of-object r i y e t p q w = let (a, b) = both_true (of_object r.number) (fitting i y e r.number) t in places r i y e (within r.number a) b p q w

  of-section : (n : ℕ) (s : Section) (b : Bool) → s ∈ o.sections → (of_object n && fitting true false false n) ≡ true → Says P o ps (of_section n s b)
  of-section n s true m t = of-object _ true false false t (s, m, refl) refl refl
  of-section n s false m t = none-says

  of-symbol : (n : ℕ) (s : Section) (y : Symbol) (b : Bool) → s ∈ o.sections → y ∈ o.symbols → (of_object n && fitting true true false n) ≡ true
      → Says P o ps (of_symbol n s y b)
  of-symbol n s y true m k t = of-object _ true true false t (s, m, refl) (y, k, refl) refl
  of-symbol n s y false m k t = none-says

  of_entry_lem : (n e : ℕ) (b : Bool) → 1 ≤ e → e ≤ length ps → (of_object n && fitting false false true n) ≡ true → Says P o ps (of_entry n e b)
  of_entry_lem n e true l h t = of-object _ false false true t refl refl (l, h)
  of_entry_lem n e false l h t = none-says

  -- ---- 4 to 17

  reloc-says : (s : Section) → s ∈ o.sections → Says P o ps (reloc_refusal s)
  unfolding reloc_refusal
  reloc-says s m = of-section 4 s (untargeted s.relocs) m refl

  licence-says : (s : Section) → s ∈ o.sections → Says P o ps (licence_refusal s)
  unfolding licence_refusal
  licence-says s m = or-says (reloc-says s m) (go (parse_license s.bytes))
    where
      go : (p : Result ℕ LicenseError) → Says P o ps (of_number s (license_number p))
      go (Ok n) = none-says
      go (Err LicenseError.InvalidLicense) = of-section 5 s true m refl
      go (Err LicenseError.MissingLicenseNullTerminator) = of-section 6 s true m refl

  version-says : (e : Endianness) (s : Section) → s ∈ o.sections → Says P o ps (version_refusal e s)
  unfolding version_refusal
  version-says e s m = or-says (reloc-says s m) (go (parse_version e s.bytes))
    where
      go : (p : Result (Option ℕ) VersionError) → Says P o ps (of_number s (version_number p))
      go (Ok v) = none-says
      go (Err VersionError.InvalidKernelVersion) = of-section 7 s true m refl

  symbol-∈ : (s : Section) (y : Symbol) → y ∈ symbols_of o s → y ∈ o.symbols
  unfolding symbols_of
  symbol-∈ s y m = (keep-∈ (λ z. lies_in s.index z.section) y o.symbols m).0

  program-symbol-says : (s : Section) (y : Symbol) → s ∈ o.sections → y ∈ o.symbols → Says P o ps (program_symbol_refusal s y)
  unfolding program_symbol_refusal
  program-symbol-says s y m k =
      or-says (of-symbol 10 s y (passes s.bytes (program_offset s y) y.size || ltb y.address s.address) m k refl)
      (of-symbol 15 s y (invalid_program_code y.size) m k refl)

  program-says : (s : Section) → s ∈ o.sections → Says P o ps (program_refusal o s)
  unfolding program_refusal program_symbols
  program-says s m =
      or-says (go (from_str s.name))
      (or-says (of-section 9 s (is_empty (symbols_of o s)) m refl)
      (first_says (program_symbol_refusal s) (program_symbols o s)
      (λ y k. program-symbol-says s y m (symbol-∈ s y (keep-∈ is_program y (symbols_of o s) k).0))))
    where
      go : (p : Result ProgramSection ProgramSectionError) → Says P o ps (of_number s (section_number p))
      go (Ok v) = none-says
      go (Err ProgramSectionError.InvalidProgramSection) = of-section 8 s true m refl

  map-symbol-says : (s : Section) (y : Symbol) → s ∈ o.sections → y ∈ o.symbols → Says P o ps (map_symbol_refusal s y)
  unfolding map_symbol_refusal
  map-symbol-says s y m k =
      or-says (of-symbol 10 s y (passes s.bytes y.address y.size) m k refl) (of-symbol 16 s y (invalid_map_definition y.size (record_of s y)) m k refl)

  maps-say : (s : Section) → s ∈ o.sections → Says P o ps (maps_refusal o s)
  unfolding maps_refusal
  maps-say s m =
      or-says (of-section 9 s (is_empty (symbols_of o s)) m refl)
      (first_says (map_symbol_refusal s) (symbols_of o s) (λ y k. map-symbol-says s y m (symbol-∈ s y k)))

  defined-∈ : (s : Section) (y : Symbol) → y ∈ defined_text o s → y ∈ o.symbols
  unfolding defined_text
  defined-∈ s y m = symbol-∈ s y (keep-∈ (λ z. is_text z.kind && z.definition) y (symbols_of o s) m).0

  shared_says : (s : Section) (seen : List ℕ) (ys : List Symbol) → s ∈ o.sections → ((y : Symbol) → y ∈ ys → y ∈ o.symbols) → Says P o ps (shared_refusal s seen ys)
  unfolding shared_refusal
  shared_says s seen [] m k = none-says
  shared_says s seen (y ∷ ys) m k =
      or-says (of-symbol 11 s y (is_some (find (eqb y.address) seen)) m (k y (inl refl)) refl)
      (shared_says s (y.address ∷ seen) ys m (λ z n. k z (inr n)))

  stop-says : (s : Section) (p : Stop) → s ∈ o.sections → ((y : Symbol) → p.met ≡ Some y → y ∈ o.symbols) → Says P o ps (stop_refusal s p)
  unfolding stop_refusal
  stop-says s p m k =
      maybe-says p.met (of_section 12 s true)
      (λ y.
      or_else (of_symbol 13 s y (eqb y.size 0))
      (or_else (of_symbol 14 s y (ltb (length s.bytes) (p.at + y.size))) (of_symbol 15 s y (invalid_program_code y.size))))
      (of-section 12 s true m refl)
      (λ y e.
      or-says (of-symbol 13 s y (eqb y.size 0) m (k y e) refl)
      (or-says (of-symbol 14 s y (ltb (length s.bytes) (p.at + y.size)) m (k y e) refl)
      (of-symbol 15 s y (invalid_program_code y.size) m (k y e) refl)))

  text_says : (s : Section) → s ∈ o.sections → Says P o ps (text_refusal o s)
  unfolding text_refusal walk_of
  text_says s m =
      or-says (shared_says s [] (defined_text o s) m (defined-∈ s))
      (first_says (stop_refusal s) (walk_of o s)
      (λ p k. stop-says s p m (λ y e. defined-∈ s y (stop-∈ (length s.bytes) s (defined_text o s) 0 p y k e).0)))

  kind-says : (s : Section) → s ∈ o.sections → Says P o ps (kind_refusal o s)
  unfolding kind_refusal
  kind-says s m = go (is_kind Kind.Program (kind_of s)) (is_kind Kind.Maps (kind_of s)) (is_kind Kind.Text (kind_of s))
    where
      go : (p q t : Bool)
          → Says P o ps (cond p (program_refusal o s) (cond q (maps_refusal o s) (cond t (text_refusal o s) (of_section 17 s (is_kind Kind.BtfMaps (kind_of s))))))
      go true q t = program-says s m
      go false true t = maps-say s m
      go false false true = text_says s m
      go false false false = of-section 17 s (is_kind Kind.BtfMaps (kind_of s)) m refl

  section-says : (s : Section) → s ∈ o.sections → Says P o ps (section_refusal o s)
  unfolding section_refusal
  section-says s m = go (is_kind Kind.BtfExt (kind_of s))
    where
      go : (b : Bool) → Says P o ps (cond b None (or_else (reloc_refusal s) (kind_refusal o s)))
      go true = none-says
      go false = or-says (reloc-says s m) (kind-says s m)

  named-∈ : (name : List ℕ) (s : Section) → first_named name o.sections ≡ Some s → s ∈ o.sections
  unfolding first_named
  named-∈ name s e = (find-∈ (λ t. same name t.name) s o.sections e).0

  object-says : Says P o ps (object_refusal o)
  unfolding object_refusal
  object-says =
      or-says (maybe-says (first_named (ascii "license") o.sections) None licence_refusal none-says (λ s e. licence-says s (named-∈ (ascii "license") s e)))
      (or-says (maybe-says (first_named (ascii "version") o.sections) None (version_refusal o.order) none-says (λ s e. version-says o.order s (named-∈ (ascii "version") s e)))
      (first_says (section_refusal o) o.sections section-says))

  -- ---- 18 to 23: entry e, one of the list

  module _ (e : ℕ) (low : 1 ≤ e) (high : e ≤ length ps) where
    place-says : (ms : List Map) (y : Symbol) → Says P o ps (place_refusal ms e y)
    unfolding place_refusal
    place-says ms y =
        maybe-says (find (λ m. lies_in m.section y.section) ms) (of_entry 22 e true) (λ m. of_entry 23 e (passes m.own y.address y.size))
        (of_entry_lem 22 e true low high refl)
        (λ m q. of_entry_lem 23 e (passes m.own y.address y.size) low high refl)

    bearer-says : (ms : List Map) (p : Patch) (ys : List Symbol) → Says P o ps (bearer_refusal ms e p ys)
    unfolding bearer_refusal
    bearer-says ms p [] = of_entry_lem 20 e (eqb p.mark 1) low high refl
    bearer-says ms p (y ∷ []) = or-says (of_entry_lem 21 e (not (eqb (length p.bytes) y.size)) low high refl) (place-says ms y)
    bearer-says ms p (y ∷ z ∷ ys) = of_entry_lem 19 e true low high refl

    entry-says : (ms : List Map) (p : Patch) → Says P o ps (entry_refusal o ms e p)
    unfolding entry_refusal
    entry-says ms p = or-says (of_entry_lem 18 e (not p.inside || ltb 1 p.mark) low high refl) (bearer-says ms p (bearers o p.name))

  patch-says : (ms : List Map) (e : ℕ) (qs : List Patch) → 1 ≤ e → e + length qs ≤ suc (length ps) → Says P o ps (patch_refusal o ms e qs)
  unfolding patch_refusal
  patch-says ms e [] l h = none-says
  patch-says ms e (q ∷ qs) l h = or-says (entry-says e l (omega arith) ms q) (patch-says ms (suc e) qs (omega arith) (omega arith))

  pub refusal-says : Says P o ps (refusal_of o ps)
  unfolding refusal_of
  refusal-says = or-says object-says (patch-says (catalogue_of o).maps 1 ps (omega arith) (omega arith))

pub number-24 : (x : Input) → NumberFor x 24
number-24 (Input.deposit d) = (omega arith, omega arith)
number-24 (Input.file f) = (omega arith, omega arith)

object-number : (x : Input) (n : ℕ) → of_object n ≡ true → VerdictNumber x n
object-number x n e = let (a, b) = both_true (leb 4 n) (leb n 23) e in go x (leb-true 4 n a) (leb-true n 23 b)
  where
    go : (x : Input) → 4 ≤ n → n ≤ 23 → VerdictNumber x n
    go (Input.deposit d) a b = ((omega arith, omega arith), λ k. omega arith)
    go (Input.file f) a b = ((omega arith, omega arith), λ k. omega arith)

pub load-says : (x : Input) (ps : List Patch) → Says (VerdictNumber x) (object_read x) ps (refusal_of (object_read x) ps)
load-says x ps = refusal-says (VerdictNumber x) (object-number x) (object_read x) ps

-- they name nothing: two numbers, then 3
own-says : (x : Input) (ps : List Patch) (n m : ℕ) (a b c : Bool) → VerdictNumber x n → VerdictNumber x m → VerdictNumber x 3
    → fitting false false false n ≡ true → fitting false false false m ≡ true
    → Says (VerdictNumber x) (object_read x) ps (or_else (of_deposit n a) (or_else (of_deposit m b) (of_deposit 3 c)))
own-says x ps n m a b c p q r t u =
    let say = of-input (VerdictNumber x) (object-number x) (object_read x) ps in
    or-says (VerdictNumber x) (object-number x) (object_read x) ps (say n a p t)
    (or-says (VerdictNumber x) (object-number x) (object_read x) ps (say m b q u) (say 3 c r refl))

pub input-says : (x : Input) (ps : List Patch) → Says (VerdictNumber x) (object_read x) ps (input_refusal x)
unfolding deposit_refusal elf_refusal
input-says (Input.deposit d) ps =
    own-says (Input.deposit d) ps 1 2 (not (frame_ok d)) (not (stream_ok d)) (has_btf (object_of d))
    ((omega arith, omega arith), λ k. omega arith)
    ((omega arith, omega arith), λ k. omega arith)
    ((omega arith, omega arith), λ k. omega arith)
    refl
    refl
input-says (Input.file f) ps =
    own-says (Input.file f) ps 25 26 (not (kind_ok f (file_of f))) (not (rules_ok f (file_of f))) (has_btf (elf_object_of f))
    ((omega arith, omega arith), λ k. omega arith)
    ((omega arith, omega arith), λ k. omega arith)
    ((omega arith, omega arith), λ k. omega arith)
    refl
    refl
