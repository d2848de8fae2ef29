-- What is known of a deposit that is opened: its limits, the rules of each record, and the object that it states, each part by its place.
use Rattle.deposit_rules.specs.declared.RecordFault.{RecordFault}
use Rattle.std.specs.Prelude.{⊤, ◌≡◌, Bool, true, false, cond, ◌&&◌, not, leb, ltb, length, get_or, take, drop, Err, None, Ok, Option, Result, Some}
use Rattle.std.proofs.Math.Path.{refl, ap}
use Rattle.std.proofs.Common.{sym, ◌∙◌, not-suc-le-zero, le_of_suc-le-suc}
use Rattle.std.proofs.Math.Bool.{and-eq-true_iff}
use mathlib.Core.List.{List, [], ◌∷◌, map}
use Prim.Native.Nat.{ℕ, zero, suc, ◌+◌, ◌%◌, ◌<◌, ◌≤◌}
use Rattle.std.proofs.Math.Nat.{le_trans, lt_trans}
use native.Mathlib.Omega.{arith}
use borrow.Author.Tests.{leb-true, ltb-true, eqb-false, not-true}
use Rattle.std.proofs.Math.Dec.{eqb}
use Rattle.lists.specs.Tab.{tab, tab-ext, get_or-tab, length-tab}
use Rattle.lists.specs.Walk.{part-tab, map-tab}
use Rattle.model.specs.declared.Extent.{Extent}
use Rattle.model.specs.declared.Head.{Head}
use Rattle.model.specs.declared.Refusal.{Refusal}
use Rattle.model.specs.declared.SectionRecord.{SectionRecord}
use Rattle.model.specs.declared.SymbolRecord.{SymbolRecord}
use Rattle.model.specs.declared.RelocationRecord.{RelocationRecord}
use Rattle.model.specs.Bytes.{maybe}
use Rattle.model.specs.Object.{Reloc, Section, Symbol, Object}
use Rattle.model.specs.Deposit.{most_bytes, frame_ok, stream_of, head_of, Stream, parts_from, parts_of, end_of, all, head_ok, within, cut_out, relocation_ok, unless_none, reloc_of, section_of, symbol_kind, symbol_of, byte_order, stated_by, object_of, has_btf, deposit_refusal}
use Rattle.stream.specs.Stream.{place, bytes_at}
use Rattle.stream.specs.Laws.{part_bytes, place_mono}
use Rattle.stream.specs.Framed.{stream-inside}
use Rattle.records.specs.Records.{names_at, data_at, head_at, deposit_section, deposit_symbol, deposit_relocation}
use Rattle.object_view.specs.declared.View.{View}
use Rattle.records.specs.View.{deposit_view}
use Rattle.deposit_rules.specs.Parts.{head-stream, parts-sections, parts-symbols, parts-relocations, parts-bytes}
use Rattle.deposit_rules.specs.Rules.{ruled, name_byte, stream_name, name_ok_at, section_ok_at, symbol_ok_at, sections_ok, symbols_ok, relocations_ok, rest_ok, records_ok_at, some_btf, ruled-all, name-cut}
use Rattle.deposit.specs.Open.{opened_of, stream_length, stream_ok_at, checked_stream, Framed, framed, btf, opened_by, opened-1, opened-checked}

-- ---- the object's parts, by their places

module _ (d : List ℕ) (h : Head) where
  abbrev pub data_of : Extent → List ℕ
  data_of e = bytes_at d 4 (data_at h + e.at) e.length

  unfoldable pub relocs_in : Extent → List Reloc
  relocs_in e = tab (λ k. reloc_of (deposit_relocation d h (e.at + k))) e.length

  unfoldable pub stream_section : SectionRecord → Section
  stream_section r =
      record {
        index = r.index;
        text = eqb r.mark 1;
        name = stream_name d h r.name;
        address = r.address;
        size = r.size;
        bytes = data_of r.bytes;
        relocs = relocs_in r.relocations;
      }

  unfoldable pub stream_symbol : SymbolRecord → Symbol
  stream_symbol r =
      record {
        index = r.index;
        section = unless_none r.section.0 r.section;
        name = stream_name d h r.name;
        address = r.address;
        size = r.size;
        kind = symbol_kind r.kind;
        definition = eqb r.definition 1;
      }

  -- ---- the rules of a record

  pub record NameRules (e : Extent) : Type 0 where
    pub short : e.length ≤ 65535
    pub inside : e.at + e.length ≤ h.names
    pub letters : all name_byte (stream_name d h e) ≡ true

  pub record SectionRules (r : SectionRecord) : Type 0 where
    pub mark : r.mark ≤ 1
    pub name : NameRules r.name
    pub size : r.size ≤ 16777216
    pub bytes : r.bytes.at + r.bytes.length ≤ h.bytes
    pub relocations : r.relocations.at + r.relocations.length ≤ h.relocations

  pub record SymbolRules (r : SymbolRecord) : Type 0 where
    pub section : 0 < r.section.0
    pub name : NameRules r.name
    pub kind : r.kind ≤ 2
    pub definition : r.definition ≤ 1

  -- ---- all of it

  pub record AcceptedStream : Type 0 where
    pub head : h ≡ head_at d
    pub frame : Framed d
    -- the stream lies in the blocks, and the deposit's indexes reach it
    pub inside : end_of h ≤ stream_length d
    pub placed : place 4 (end_of h) ≤ length d
    pub order : h.order ≤ 1
    pub few-sections : h.sections ≤ 4096
    pub few-symbols : h.symbols ≤ 65536
    pub few-relocations : h.relocations ≤ 65536
    pub section-rules : (i : ℕ) → i < h.sections → SectionRules (deposit_section d i)
    pub symbol-rules : (i : ℕ) → i < h.symbols → SymbolRules (deposit_symbol d h i)
    pub relocation-rules : (i : ℕ) → i < h.relocations → 0 < (deposit_relocation d h i).symbol.0
    -- indexes are at least 1 and rise strictly
    pub section-first : (i : ℕ) → i < h.sections → 0 < (deposit_section d i).index.0
    pub sections-rise : (i j : ℕ) → i < j → j < h.sections → (deposit_section d i).index.0 < (deposit_section d j).index.0
    pub symbol-first : (i : ℕ) → i < h.symbols → 0 < (deposit_symbol d h i).index.0
    pub symbols-rise : (i j : ℕ) → i < j → j < h.symbols → (deposit_symbol d h i).index.0 < (deposit_symbol d h j).index.0
    -- the object
    pub object-order : (object_of d).order ≡ byte_order h.order
    pub object-sections : (object_of d).sections ≡ tab (λ i. stream_section (deposit_section d i)) h.sections
    pub object-symbols : (object_of d).symbols ≡ tab (λ i. stream_symbol (deposit_symbol d h i)) h.symbols
    pub no-btf : has_btf (object_of d) ≡ false
    pub no-refusal : deposit_refusal d ≡ None

-- ---- what a test that passed says

both : (a b : Bool) → (a && b) ≡ true → (a ≡ true) × (b ≡ true)
both a b e = (and-eq-true_iff a b).0 e

module _ {A : Type 0} where
  all_get_d : (p : A → Bool) (x : A) (xs : List A) (k : ℕ) → k < length xs → all p xs ≡ true → p (get_or xs k x) ≡ true
  unfolding all
  all_get_d p x [] k l e = absurd (not-suc-le-zero l)
  all_get_d p x (y ∷ ys) zero l e = (both (p y) (all p ys) e).0
  all_get_d p x (y ∷ ys) (suc k) l e = all_get_d p x ys k (le_of_suc-le-suc l) (both (p y) (all p ys) e).1

  module _ (index : A → ℕ) (ok : A → Bool) (x : A) where
    ruled-above : (n : ℕ) (xs : List A) → ruled index ok n xs ≡ true → (k : ℕ) → k < length xs → n < index (get_or xs k x)
    unfolding ruled
    ruled-above n [] e k l = absurd (not-suc-le-zero l)
    ruled-above n (y ∷ ys) e zero l = ltb-true n (index y) (both (ltb n (index y)) (ok y && ruled index ok (index y) ys) e).0
    ruled-above n (y ∷ ys) e (suc k) l =
        let s = both (ltb n (index y)) (ok y && ruled index ok (index y) ys) e in
        lt_trans (ltb-true n (index y) s.0) (ruled-above (index y) ys (both (ok y) (ruled index ok (index y) ys) s.1).1 k (le_of_suc-le-suc l))

    ruled-rise : (n : ℕ) (xs : List A) → ruled index ok n xs ≡ true → (i j : ℕ) → i < j → j < length xs → index (get_or xs i x) < index (get_or xs j x)
    unfolding ruled
    ruled-rise n [] e i j h l = absurd (not-suc-le-zero l)
    ruled-rise n (y ∷ ys) e i zero h l = absurd (not-suc-le-zero h)
    ruled-rise n (y ∷ ys) e zero (suc j) h l =
        ruled-above (index y) ys (both (ok y) (ruled index ok (index y) ys) (both (ltb n (index y)) (ok y && ruled index ok (index y) ys) e).1).1 j (le_of_suc-le-suc l)
    ruled-rise n (y ∷ ys) e (suc i) (suc j) h l =
        ruled-rise (index y) ys (both (ok y) (ruled index ok (index y) ys) (both (ltb n (index y)) (ok y && ruled index ok (index y) ys) e).1).1 i j (le_of_suc-le-suc h) (le_of_suc-le-suc l)

  -- the same of a table by its records
  module _ (f : ℕ → A) (n : ℕ) where
    at : (i : ℕ) → i < n → get_or (tab f n) i (f 0) ≡ f i
    at i l = get_or-tab f n i (f 0) l

    within-tab : (i : ℕ) → i < n → i < length (tab f n)
    within-tab i l = rw length-tab l

    all-at : (p : A → Bool) → all p (tab f n) ≡ true → (i : ℕ) → i < n → p (f i) ≡ true
    all-at p e i l = ap p (sym (at i l)) ∙ all_get_d p (f 0) (tab f n) i (within-tab i l) e

    above_at : (index : A → ℕ) (ok : A → Bool) (m : ℕ) → ruled index ok m (tab f n) ≡ true → (i : ℕ) → i < n → m < index (f i)
    above_at index ok m e i l = rw (at i l) at (ruled-above index ok (f 0) m (tab f n) e i (within-tab i l))

    rise-at : (index : A → ℕ) (ok : A → Bool) (m : ℕ) → ruled index ok m (tab f n) ≡ true → (i j : ℕ) → i < j → j < n → index (f i) < index (f j)
    rise-at index ok m e i j h l =
        rw (at i (lt_trans h l), at j l) at (ruled-rise index ok (f 0) m (tab f n) e i j h (within-tab j l))

module _ (d : List ℕ) (h : Head) where
  name-rules : (e : Extent) → name_ok_at d h e ≡ true → NameRules d h e
  unfolding name_ok_at
  name-rules e t =
      let s = both (leb e.length 65535) (within e h.names && all name_byte (stream_name d h e)) t in
      let u = both (within e h.names) (all name_byte (stream_name d h e)) s.1 in
      record { short = leb-true _ _ s.0; inside = leb-true _ _ u.0; letters = u.1 }

  section-rules-of : (r : SectionRecord) → section_ok_at d h r ≡ true → SectionRules d h r
  unfolding section_ok_at
  section-rules-of r t =
      let s₁ = both (leb r.mark 1) (name_ok_at d h r.name && (leb r.size most_bytes && (within r.bytes h.bytes && within r.relocations h.relocations))) t in
      let s₂ = both (name_ok_at d h r.name) (leb r.size most_bytes && (within r.bytes h.bytes && within r.relocations h.relocations)) s₁.1 in
      let s₃ = both (leb r.size most_bytes) (within r.bytes h.bytes && within r.relocations h.relocations) s₂.1 in
      let s₄ = both (within r.bytes h.bytes) (within r.relocations h.relocations) s₃.1 in
      record {
        mark = leb-true _ _ s₁.0;
        name = name-rules r.name s₂.0;
        size = leb-true _ _ s₃.0;
        bytes = leb-true _ _ s₄.0;
        relocations = leb-true _ _ s₄.1;
      }

  above_zero : (n : ℕ) → not (eqb n 0) ≡ true → 0 < n
  above_zero n t = let z = eqb-false n 0 (not-true (eqb n 0) t) in omega (arith, z)

  symbol-rules-of : (r : SymbolRecord) → symbol_ok_at d h r ≡ true → SymbolRules d h r
  unfolding symbol_ok_at
  symbol-rules-of r t =
      let s₁ = both (not (eqb r.section.0 0)) (name_ok_at d h r.name && (leb r.kind 2 && (leb r.definition 1 && eqb r.reserved 0))) t in
      let s₂ = both (name_ok_at d h r.name) (leb r.kind 2 && (leb r.definition 1 && eqb r.reserved 0)) s₁.1 in
      let s₃ = both (leb r.kind 2) (leb r.definition 1 && eqb r.reserved 0) s₂.1 in
      let s₄ = both (leb r.definition 1) (eqb r.reserved 0) s₃.1 in
      record {
        section = above_zero r.section.0 s₁.0;
        name = name-rules r.name s₂.0;
        kind = leb-true _ _ s₃.0;
        definition = leb-true _ _ s₄.0;
      }

  relocation-rule-of : (r : RelocationRecord) → relocation_ok r ≡ true → 0 < r.symbol.0
  unfolding relocation_ok
  relocation-rule-of r t = above_zero r.symbol.0 (both (not (eqb r.symbol.0 0)) (eqb r.reserved 0) t).0

  -- ---- what a record states

  module _ (whole : length d % 512 ≡ 0) (inside : end_of h ≤ stream_length d) where
    abbrev parts : Stream
    parts = parts_from h (stream_of d)

    data-cut : (e : Extent) → e.at + e.length ≤ h.bytes → cut_out e parts.bytes ≡ data_of d h e
    data-cut e l = ap (cut_out e) (parts-bytes d whole h inside) ∙ part_bytes d 4 (data_at h) h.bytes e.at e.length l

    relocs-cut : (e : Extent) → e.at + e.length ≤ h.relocations → map reloc_of (take e.length (drop e.at parts.relocations)) ≡ relocs_in d h e
    unfolding relocs_in
    relocs-cut e l =
        ap (λ (rs : List RelocationRecord). map reloc_of (take e.length (drop e.at rs))) (parts-relocations d whole h inside)
        ∙ ap (map reloc_of) (part-tab (deposit_relocation d h) h.relocations e.at e.length l)
        ∙ map-tab (λ k. deposit_relocation d h (e.at + k)) e.length reloc_of

    section-states : (r : SectionRecord) → SectionRules d h r → section_of parts r ≡ stream_section d h r
    unfolding section_of stream_section
    section-states r s = λ i.
        record {
          index = r.index;
          text = eqb r.mark 1;
          name = name-cut d whole h inside r.name s.name.inside i;
          address = r.address;
          size = r.size;
          bytes = data-cut r.bytes s.bytes i;
          relocs = relocs-cut r.relocations s.relocations i;
        }

    symbol-states : (r : SymbolRecord) → SymbolRules d h r → symbol_of parts r ≡ stream_symbol d h r
    unfolding symbol_of stream_symbol
    symbol-states r s = λ i.
        record {
          index = r.index;
          section = unless_none r.section.0 r.section;
          name = name-cut d whole h inside r.name s.name.inside i;
          address = r.address;
          size = r.size;
          kind = symbol_kind r.kind;
          definition = eqb r.definition 1;
        }

    stated-sections : ((i : ℕ) → i < h.sections → SectionRules d h (deposit_section d i))
        → (stated_by parts).sections ≡ tab (λ i. stream_section d h (deposit_section d i)) h.sections
    unfolding stated_by
    stated-sections s =
        ap (map (section_of parts)) (parts-sections d whole h inside)
        ∙ map-tab (deposit_section d) h.sections (section_of parts)
        ∙ tab-ext (λ i. section_of parts (deposit_section d i)) (λ i. stream_section d h (deposit_section d i)) h.sections (λ i l. section-states (deposit_section d i) (s i l))

    stated-symbols : ((i : ℕ) → i < h.symbols → SymbolRules d h (deposit_symbol d h i))
        → (stated_by parts).symbols ≡ tab (λ i. stream_symbol d h (deposit_symbol d h i)) h.symbols
    unfolding stated_by
    stated-symbols s =
        ap (map (symbol_of parts)) (parts-symbols d whole h inside)
        ∙ map-tab (deposit_symbol d h) h.symbols (symbol_of parts)
        ∙ tab-ext (λ i. symbol_of parts (deposit_symbol d h i)) (λ i. stream_symbol d h (deposit_symbol d h i)) h.symbols (λ i l. symbol-states (deposit_symbol d h i) (s i l))

  stated-order : (stated_by (parts_from h (stream_of d))).order ≡ byte_order h.order
  unfolding stated_by parts_from
  stated-order = refl

  object-is : Framed d → head_at d ≡ h → object_of d ≡ stated_by (parts_from h (stream_of d))
  unfolding object_of parts_of
  object-is f e = ap (λ (k : Head). stated_by (parts_from k (stream_of d))) (head-stream d f.whole f.some ∙ e)

  no-btf-of : Framed d → head_at d ≡ h → stream_ok_at d h ≡ true → some_btf d h ≡ false → has_btf (object_of d) ≡ false
  no-btf-of f e t b = btf d f (rw e t) ∙ rw e b

-- ---- a deposit that is opened

passed : (d : List ℕ) (v : View) → opened_of d ≡ Ok v → deposit_refusal d ≡ None
unfolding opened_of
passed d v e = go (deposit_refusal d) refl e
  where
    go : (o : Option Refusal) → deposit_refusal d ≡ o → maybe o (Ok (deposit_view (head_of (stream_of d)))) (λ r. Err r) ≡ Ok v → deposit_refusal d ≡ None
    go None p q = p
    go (Some r) p q = let z : ◌≡◌ {A = ℕ} 0 1 = cc in absurd (omega arith)

-- the other answer
pub refused-by : (d : List ℕ) (r : Refusal) → opened_of d ≡ Err r → deposit_refusal d ≡ Some r
unfolding opened_of
refused-by d r e = go (deposit_refusal d) refl e
  where
    go : (o : Option Refusal) → deposit_refusal d ≡ o → maybe o (Ok (deposit_view (head_of (stream_of d)))) (λ r. Err r) ≡ Err r → deposit_refusal d ≡ Some r
    go None p q = let z : ◌≡◌ {A = ℕ} 0 1 = cc in absurd (omega arith)
    go (Some s) p q = let f : Err s ≡ Err r = q in let g : s ≡ r = cc in p ∙ ap Some g

fine : (a b : Bool) → cond {A = Result ⊤ RecordFault} a (cond b (Err RecordFault.Btf) (Ok tt)) (Err RecordFault.Broken) ≡ Ok tt → (a ≡ true) × (b ≡ false)
fine true true e = let z : ◌≡◌ {A = ℕ} 0 1 = cc in absurd (omega arith)
fine true false e = (refl, refl)
fine false b e = let z : ◌≡◌ {A = ℕ} 0 1 = cc in absurd (omega arith)

accepted-by : (d : List ℕ) (h : Head) → Framed d → head_at d ≡ h → stream_ok_at d h ≡ true → some_btf d h ≡ false → deposit_refusal d ≡ None → AcceptedStream d h
unfolding stream_ok_at records_ok_at head_ok sections_ok symbols_ok relocations_ok
accepted-by d h f e t b n =
    let s₀ = both (head_ok h) (leb (end_of h) (stream_length d) && (ltb (stream_length d) (end_of h + 508) && records_ok_at d h)) t in
    let s₁ = both (leb (end_of h) (stream_length d)) (ltb (stream_length d) (end_of h + 508) && records_ok_at d h) s₀.1 in
    let s₂ = both (ltb (stream_length d) (end_of h + 508)) (records_ok_at d h) s₁.1 in
    let s₃ = both (rest_ok d h) (symbols_ok d h && (relocations_ok d h && sections_ok d h)) s₂.1 in
    let s₄ = both (symbols_ok d h) (relocations_ok d h && sections_ok d h) s₃.1 in
    let s₅ = both (relocations_ok d h) (sections_ok d h) s₄.1 in
    let k₁ = both (leb h.order 1) (leb h.sections 4096 && (leb h.symbols 65536 && (leb h.relocations 65536 && eqb h.reserved 0))) s₀.0 in
    let k₂ = both (leb h.sections 4096) (leb h.symbols 65536 && (leb h.relocations 65536 && eqb h.reserved 0)) k₁.1 in
    let k₃ = both (leb h.symbols 65536) (leb h.relocations 65536 && eqb h.reserved 0) k₂.1 in
    let k₄ = both (leb h.relocations 65536) (eqb h.reserved 0) k₃.1 in
    let inside : end_of h ≤ stream_length d = leb-true _ _ s₁.0 in
    let object : object_of d ≡ stated_by (parts_from h (stream_of d)) = object-is d h f e in
    let secs : (i : ℕ) → i < h.sections → SectionRules d h (deposit_section d i) =
    λ i l. section-rules-of d h (deposit_section d i) (all-at (deposit_section d) h.sections (section_ok_at d h) (ruled-all (λ r. r.index.0) (section_ok_at d h) 0 _ s₅.1) i l) in
    let syms : (i : ℕ) → i < h.symbols → SymbolRules d h (deposit_symbol d h i) =
    λ i l. symbol-rules-of d h (deposit_symbol d h i) (all-at (deposit_symbol d h) h.symbols (symbol_ok_at d h) (ruled-all (λ r. r.index.0) (symbol_ok_at d h) 0 _ s₄.0) i l) in
    record {
      head = sym e;
      frame = f;
      inside = inside;
      placed = stream-inside d f.whole (end_of h) inside;
      order = leb-true _ _ k₁.0;
      few-sections = leb-true _ _ k₂.0;
      few-symbols = leb-true _ _ k₃.0;
      few-relocations = leb-true _ _ k₄.0;
      section-rules = secs;
      symbol-rules = syms;
      relocation-rules = λ i l. relocation-rule-of d h (deposit_relocation d h i) (all-at (deposit_relocation d h) h.relocations relocation_ok s₅.0 i l);
      section-first = above_at (deposit_section d) h.sections (λ r. r.index.0) (section_ok_at d h) 0 s₅.1;
      sections-rise = rise-at (deposit_section d) h.sections (λ r. r.index.0) (section_ok_at d h) 0 s₅.1;
      symbol-first = above_at (deposit_symbol d h) h.symbols (λ r. r.index.0) (symbol_ok_at d h) 0 s₄.0;
      symbols-rise = rise-at (deposit_symbol d h) h.symbols (λ r. r.index.0) (symbol_ok_at d h) 0 s₄.0;
      object-order = ap (λ (o : Object). o.order) object ∙ stated-order d h;
      object-sections = ap (λ (o : Object). o.sections) object ∙ stated-sections d h f.whole inside secs;
      object-symbols = ap (λ (o : Object). o.symbols) object ∙ stated-symbols d h f.whole inside syms;
      no-btf = no-btf-of d h f e t b;
      no-refusal = n;
    }

-- its view is that of its head
pub accepted : (d : List ℕ) (v : View) → opened_of d ≡ Ok v → (v ≡ deposit_view (head_at d)) × AcceptedStream d (head_at d)
unfolding checked_stream
accepted d v e = go (frame_ok d) refl
  where
    opened : frame_ok d ≡ true → (c : Result ⊤ RecordFault) → checked_stream d (head_at d) ≡ c → opened_by c (head_at d) ≡ Ok v
        → (v ≡ deposit_view (head_at d)) × AcceptedStream d (head_at d)
    opened f (Err RecordFault.Broken) p q = let z : ◌≡◌ {A = ℕ} 0 1 = cc in absurd (omega arith)
    opened f (Err RecordFault.Btf) p q = let z : ◌≡◌ {A = ℕ} 0 1 = cc in absurd (omega arith)
    opened f (Ok tt) p q =
        let r : Ok (deposit_view (head_at d)) ≡ Ok v = q in
        let g : v ≡ deposit_view (head_at d) = cc in
        let s = fine (stream_ok_at d (head_at d)) (some_btf d (head_at d)) p in
        (g, accepted-by d (head_at d) (framed d f) refl s.0 s.1 (passed d v e))

    go : (b : Bool) → frame_ok d ≡ b → (v ≡ deposit_view (head_at d)) × AcceptedStream d (head_at d)
    go true f = opened f (checked_stream d (head_at d)) refl (sym (opened-checked d f) ∙ e)
    go false f = let p = sym (opened-1 d f) ∙ e in let z : ◌≡◌ {A = ℕ} 0 1 = cc p in absurd (omega arith)

-- ---- to cite

module _ (d : List ℕ) (h : Head) (a : AcceptedStream d h) where
  pub count-sections : length (object_of d).sections ≡ h.sections
  count-sections = ap length a.object-sections ∙ length-tab (λ i. stream_section d h (deposit_section d i)) h.sections

  pub count-symbols : length (object_of d).symbols ≡ h.symbols
  count-symbols = ap length a.object-symbols ∙ length-tab (λ i. stream_symbol d h (deposit_symbol d h i)) h.symbols

  -- the object's section and symbol i
  pub object-section : (i : ℕ) (x : Section) → i < h.sections → get_or (object_of d).sections i x ≡ stream_section d h (deposit_section d i)
  object-section i x l =
      ap (λ (l : List Section). get_or l i x) a.object-sections ∙ get_or-tab (λ i. stream_section d h (deposit_section d i)) h.sections i x l

  pub object-symbol : (i : ℕ) (x : Symbol) → i < h.symbols → get_or (object_of d).symbols i x ≡ stream_symbol d h (deposit_symbol d h i)
  object-symbol i x l =
      ap (λ (l : List Symbol). get_or l i x) a.object-symbols ∙ get_or-tab (λ i. stream_symbol d h (deposit_symbol d h i)) h.symbols i x l

  -- names and data lie inside the deposit
  pub name-placed : (e : Extent) → NameRules d h e → place 4 (names_at h + e.at + e.length) ≤ length d
  unfolding end_of
  name-placed e r =
      let l : names_at h + e.at + e.length ≤ end_of h = omega (arith, r.inside) in
      le_trans (place_mono 4 (names_at h + e.at + e.length) (end_of h) l) a.placed

  pub data-placed : (e : Extent) → e.at + e.length ≤ h.bytes → place 4 (data_at h + e.at + e.length) ≤ length d
  unfolding end_of
  data-placed e r =
      let l : data_at h + e.at + e.length ≤ end_of h = omega arith in
      le_trans (place_mono 4 (data_at h + e.at + e.length) (end_of h) l) a.placed
