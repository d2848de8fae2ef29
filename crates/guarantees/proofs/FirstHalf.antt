-- Demand 3, first half, on objects: what the catalogue lists of a section stands in the other object's section too.
use Rattle.std.specs.Prelude.{◌≡◌, refl, ◌⊎◌, Bool, true, false, cond, ◌&&◌, List, [], ◌∷◌, map, ℕ, ◌+◌, ◌<◌, ◌≤◌, ltb, drop, replicate, None, Option, Some}
use Rattle.std.proofs.Math.Path.{sym, ap, subst}
use Rattle.std.proofs.Common.{◌∙◌, inl, inr, arith, length-drop, length-take-le, get_or-take, get_or-drop}
use borrow.Author.Tests.{eqb-true}
use Rattle.std.proofs.Math.Dec.{eqb}
use Rattle.std.proofs.Math.ListN.{length, get_or}
use Rattle.model.specs.declared.EbpfSectionKind.{EbpfSectionKind as Kind}
use Rattle.model.specs.Bytes.{each, part, ◌∈◌}
use Rattle.model.specs.Object.{Section, Symbol, Object}
use Rattle.model.specs.SectionKind.{from_name, is_kind, or_program, kind_of}
use Rattle.model.specs.Catalogue.{SectionEntry, Function, Map, Catalogue, section_key, function_key, map_key}
use Rattle.model.specs.Symbols.{symbols_of, program_symbols}
use Rattle.model.specs.Contents.{section_entries, function_at, program_function, functions_of, legacy_map, data_map, is_data, maps_of, catalogue_of}
use Rattle.guarantees.specs.OptionsAndLists.{not_some, map-∈, each-∈, ∈-each}
use Rattle.guarantees.specs.TableLaws.{keep-∈, table-∈, ∈-table}
use Rattle.model.specs.declared.Refusal.{Refusal}
use Rattle.model.specs.Refusals.{refusal_of}
use Rattle.model.specs.Patching.{patched, finish, accepted, verdict, load}
use Rattle.model.specs.Lent.{function_code}
use Rattle.guarantees.specs.WordsOfDemand3.{Fair, Whole, Stands, functions_in, Agree, FirstHalf}
use Rattle.encoding.specs.Code.{part-is}
use Rattle.guarantees.specs.AcceptedObjects.{Stated, Accepted, one_index, Fits, program-accepted, functions-section}
use Rattle.guarantees.specs.SecondHalf.{accepted-is}
use Rattle.guarantees.proofs.TextJoined.{text-is-its-functions}
use Rattle.guarantees.specs.FirstHalf.{FirstHalfOfObjects, kind-is}

-- a kind is the name's, or a program section's where the name has none
program-or : (b : Bool) (n : ℕ) (k : Kind) → (or_program b n k ≡ k) ⊎ ((k ≡ Kind.Undefined) × (or_program b n k ≡ Kind.Program))
unfolding or_program
program-or b n k = go (is_kind Kind.Undefined k) (b && ltb 0 n) refl
  where
    go : (u v : Bool) → is_kind Kind.Undefined k ≡ u → (cond (u && v) Kind.Program k ≡ k) ⊎ ((k ≡ Kind.Undefined) × (cond (u && v) Kind.Program k ≡ Kind.Program))
    go true true e = inr (kind-is Kind.Undefined k e, refl)
    go true false e = inl refl
    go false v e = inl refl

kind-or : (s : Section) → (kind_of s ≡ from_name s.name) ⊎ ((from_name s.name ≡ Kind.Undefined) × (kind_of s ≡ Kind.Program))
unfolding kind_of
kind-or s = program-or s.text s.size (from_name s.name)

-- a name's kind that is not Undefined stays
kind-stays : (s : Section) (k : Kind) → is_kind Kind.Undefined k ≡ false → from_name s.name ≡ k → kind_of s ≡ k
unfolding kind_of or_program
kind-stays s k u e = rw (e, u)

-- sections of one name
same_text : (s t : Section) → t.name ≡ s.name → kind_of s ≡ Kind.Text → kind_of t ≡ Kind.Text
same_text s t e h = go (kind-or s)
  where
    go : (kind_of s ≡ from_name s.name) ⊎ ((from_name s.name ≡ Kind.Undefined) × (kind_of s ≡ Kind.Program)) → kind_of t ≡ Kind.Text
    go (inl q) = kind-stays t Kind.Text refl (ap from_name e ∙ sym q ∙ h)
    go (inr q) = let k : kind_of s ≡ Kind.Program = q.1 in cc

same-program : (s t : Section) → t.name ≡ s.name → kind_of s ≡ Kind.Program → (kind_of t ≡ Kind.Program) ⊎ (kind_of t ≡ Kind.Undefined)
same-program s t e h = go (kind-or s) (kind-or t)
  where
    go : (kind_of s ≡ from_name s.name) ⊎ ((from_name s.name ≡ Kind.Undefined) × (kind_of s ≡ Kind.Program))
        → (kind_of t ≡ from_name t.name) ⊎ ((from_name t.name ≡ Kind.Undefined) × (kind_of t ≡ Kind.Program))
        → (kind_of t ≡ Kind.Program) ⊎ (kind_of t ≡ Kind.Undefined)
    go (inl q) r = inl (kind-stays t Kind.Program refl (ap from_name e ∙ sym q ∙ h))
    go (inr q) (inl r) = inr (r ∙ ap from_name e ∙ q.0)
    go (inr q) (inr r) = inl r.1

-- ---- program functions

other-functions : (o : Object) (s : Section) (f : Function) → kind_of s ≡ Kind.Undefined → f ∈ functions_of o s → ⊥
unfolding functions_of
other-functions o s f e m = rw e at m

program-functions : (o : Object) (s : Section) (f : Function) → kind_of s ≡ Kind.Program → f ∈ functions_of o s → (y : Symbol) × (y ∈ program_symbols o s) × (f ≡ program_function s y)
unfolding functions_of
program-functions o s f e m = map-∈ (program_function s) f (program_symbols o s) (rw e at m)

-- a listed function's bytes are those of its section's data from its offset on, as many as its symbol's size
program-bytes : (o : Object) (s : Section) (y : Symbol) (f : Function) → Stated o → Accepted o → s ∈ o.sections → kind_of s ≡ Kind.Program → y ∈ program_symbols o s
    → f ≡ program_function s y → (f.offset ≡ y.address) × (function_code f ≡ part s.bytes y.address y.size) × (length (function_code f) ≡ y.size)
unfolding program_function function_at
program-bytes o s y f w h m e n q =
    let k : Fits s y = program-accepted o s y h m e n in
    let k₁ : y.address + y.size ≤ length s.bytes = k.inside in
    let c : function_code f ≡ part s.bytes y.address y.size =
    ap function_code q ∙ part-is s.bytes y.address y.size k₁ k.eights (w.bytes s m) in
    (ap (λ g. g.offset) q, c, ap length c ∙ length-take-le y.size (drop y.address s.bytes) (rw length-drop (omega arith)))

byte-of-part : (d : List ℕ) (at n j : ℕ) → j < n → get_or (part d at n) j 0 ≡ get_or d (at + j) 0
byte-of-part d at n j h = get_or-take n (drop at d) j 0 h ∙ get_or-drop at d j 0

-- ---- maps

pub maps-∈ : (o : Object) (s : Section) (w : Map) → w ∈ maps_of o s
    → ((kind_of s ≡ Kind.Maps) × ((y : Symbol) × (y ∈ symbols_of o s) × (w ≡ legacy_map s y))) ⊎ (w ≡ data_map (kind_of s) s)
unfolding maps_of
maps-∈ o s w m = go (is_kind Kind.Maps (kind_of s)) (is_data (kind_of s)) refl m
  where
    go : (p q : Bool) → is_kind Kind.Maps (kind_of s) ≡ p → w ∈ cond p (map (legacy_map s) (symbols_of o s)) (cond q (data_map (kind_of s) s ∷ []) [])
        → ((kind_of s ≡ Kind.Maps) × ((y : Symbol) × (y ∈ symbols_of o s) × (w ≡ legacy_map s y))) ⊎ (w ≡ data_map (kind_of s) s)
    go true q e m = inl (kind-is Kind.Maps (kind_of s) e, map-∈ (legacy_map s) w (symbols_of o s) m)
    go false true e (inl q) = inr q
    go false true e (inr m) = absurd m
    go false false e m = absurd m

map-listed : (o : Object) (s : Section) → is_kind Kind.Maps (kind_of s) ≡ false → is_data (kind_of s) ≡ true → data_map (kind_of s) s ∈ maps_of o s
unfolding maps_of
map-listed o s e h = rw (e, h) (inl refl)

legacy-name : (s : Section) (y : Symbol) (w : Map) → w ≡ legacy_map s y → w.name ≡ y.name
unfolding legacy_map
legacy-name s y w e = ap (λ m. m.name) e

legacy-symbol : (s : Section) (y : Symbol) (w : Map) → w ≡ legacy_map s y → w.symbol ≡ Some y.index
unfolding legacy_map
legacy-symbol s y w e = ap (λ m. m.symbol) e

data-name : (k : Kind) (s : Section) → (data_map k s).name ≡ s.name
unfolding data_map
data-name k s = refl

data-symbol : (k : Kind) (s : Section) → (data_map k s).symbol ≡ None
unfolding data_map
data-symbol k s = refl

-- equal data maps, of a kind that keeps its data, are of sections with one name, index and data
data-parts : (k l : Kind) (s t : Section) → is_kind Kind.Bss k ≡ false → data_map k s ≡ data_map l t
    → (t.name ≡ s.name) × (t.index ≡ s.index) × (l ≡ k) × (t.bytes ≡ s.bytes)
unfolding data_map
data-parts k l s t h e =
    let kl : l ≡ k = ap (λ m. m.kind) (sym e) in
    let own : cond (is_kind Kind.Bss l) (replicate t.size 0) t.bytes ≡ cond (is_kind Kind.Bss k) (replicate s.size 0) s.bytes = ap (λ m. m.own) (sym e) in
    let g : is_kind Kind.Bss l ≡ false = ap (is_kind Kind.Bss) kl ∙ h in
    (ap (λ m. m.name) (sym e), ap (λ m. m.section) (sym e), kl, rw (g, h) at own)

-- ---- the section list

entry_of : Section → SectionEntry
entry_of s = record { name = s.name; index = s.index; size = s.size }

entries-∈ : (s : Section) (w : SectionEntry) → w ∈ section_entries s → w ≡ entry_of s
unfolding section_entries entry_of
entries-∈ s w m = go (is_kind Kind.BtfExt (kind_of s)) m
  where
    go : (b : Bool) → w ∈ cond b [] (entry_of s ∷ []) → w ≡ entry_of s
    go true m = absurd m
    go false (inl q) = q
    go false (inr m) = absurd m

entry_listed : (s : Section) → is_kind Kind.BtfExt (kind_of s) ≡ false → entry_of s ∈ section_entries s
unfolding section_entries entry_of
entry_listed s e = rw e (inl refl)

module _ (a b : Object) (wa : Stated a) (wb : Stated b) (ha : Accepted a) (hb : Accepted b) (eq : catalogue_of a ≡ catalogue_of b) (fa : Fair a) where
  -- a section that enters the list stands in both under one name and index
  section-stands : (s : Section) → s ∈ a.sections → is_kind Kind.BtfExt (kind_of s) ≡ false
      → (t : Section) × (t ∈ b.sections) × (t.name ≡ s.name) × (t.index ≡ s.index)
  unfolding catalogue_of entry_of
  section-stands s m e =
      let unique : (w : SectionEntry) → w ∈ each section_entries a.sections → s.name ≡ w.name → w ≡ entry_of s = λ w n q.
      let (t, k, r) = each-∈ section_entries w a.sections n in
      let i : w ≡ entry_of t = entries-∈ t w r in
      let j : s.name ≡ t.name = q ∙ ap (λ x. x.name) i in
      i ∙ ap entry_of (sym (one_index 0 a.sections s t wa.rising m k (fa.names s t m k j)))
      in
      let listed : entry_of s ∈ (catalogue_of a).sections =
      ∈-table section_key (entry_of s) (each section_entries a.sections) (∈-each section_entries (entry_of s) s a.sections m (entry_listed s e)) unique in
      let there : entry_of s ∈ (catalogue_of b).sections = subst (λ c. entry_of s ∈ c.sections) eq listed in
      found s (each-∈ section_entries (entry_of s) b.sections (table-∈ section_key (entry_of s) (each section_entries b.sections) there))
    where
      found : (s : Section) → (t : Section) × (t ∈ b.sections) × (entry_of s ∈ section_entries t) → (t : Section) × (t ∈ b.sections) × (t.name ≡ s.name) × (t.index ≡ s.index)
      found s w = let i : entry_of s ≡ entry_of w.0 = entries-∈ w.0 (entry_of s) w.2 in (w.0, w.1, ap (λ x. x.name) (sym i), ap (λ x. x.index) (sym i))

  -- a `.data` or `.rodata` section
  data-stands : (s : Section) → s ∈ a.sections → is_kind Kind.Maps (kind_of s) ≡ false → is_data (kind_of s) ≡ true → is_kind Kind.Bss (kind_of s) ≡ false
      → (t : Section) × (t ∈ b.sections) × (t.name ≡ s.name) × (t.index ≡ s.index) × (kind_of t ≡ kind_of s) × (t.bytes ≡ s.bytes)
  unfolding catalogue_of
  data-stands s m e h z =
      let d = data_map (kind_of s) s in
      let listed : d ∈ (catalogue_of a).maps =
      ∈-table map_key d (each (maps_of a) a.sections) (∈-each (maps_of a) d s a.sections m (map-listed a s e h)) unique in
      let there : d ∈ (catalogue_of b).maps = subst (λ c. d ∈ c.maps) eq listed in
      found (each-∈ (maps_of b) d b.sections (table-∈ map_key d (each (maps_of b) b.sections) there))
    where
      alone : (w : Map) (t : Section) → t ∈ a.sections → s.name ≡ w.name
          → ((kind_of t ≡ Kind.Maps) × ((y : Symbol) × (y ∈ symbols_of a t) × (w ≡ legacy_map t y))) ⊎ (w ≡ data_map (kind_of t) t) → w ≡ data_map (kind_of s) s
      alone w t k q (inl r) = absurd (fa.maps t s r.1.0 k r.0 r.1.1 m (sym (legacy-name t r.1.0 w r.1.2) ∙ sym q))
      alone w t k q (inr r) =
          let j : s.name ≡ t.name = q ∙ ap (λ x. x.name) r ∙ data-name (kind_of t) t in
          let i : s ≡ t = one_index 0 a.sections s t wa.rising m k (fa.names s t m k j) in
          r ∙ ap (λ x. data_map (kind_of x) x) (sym i)

      unique : (w : Map) → w ∈ each (maps_of a) a.sections → (data_map (kind_of s) s).name ≡ w.name → w ≡ data_map (kind_of s) s
      unique w n q = let (t, k, r) = each-∈ (maps_of a) w a.sections n in alone w t k (sym (data-name (kind_of s) s) ∙ q) (maps-∈ a t w r)

      fit : (t : Section) → t ∈ b.sections
          → ((kind_of t ≡ Kind.Maps) × ((y : Symbol) × (y ∈ symbols_of b t) × (data_map (kind_of s) s ≡ legacy_map t y))) ⊎ (data_map (kind_of s) s ≡ data_map (kind_of t) t)
          → (t : Section) × (t ∈ b.sections) × (t.name ≡ s.name) × (t.index ≡ s.index) × (kind_of t ≡ kind_of s) × (t.bytes ≡ s.bytes)
      fit t k (inl r) =
          not_some r.1.0.index (sym (legacy-symbol t r.1.0 (data_map (kind_of s) s) r.1.2) ∙ data-symbol (kind_of s) s)
      fit t k (inr r) = let (p, q, u, v) = data-parts (kind_of s) (kind_of t) s t z r in (t, k, p, q, u, v)

      found : (t : Section) × (t ∈ b.sections) × (data_map (kind_of s) s ∈ maps_of b t)
          → (t : Section) × (t ∈ b.sections) × (t.name ≡ s.name) × (t.index ≡ s.index) × (kind_of t ≡ kind_of s) × (t.bytes ≡ s.bytes)
      found w = fit w.0 w.1 (maps-∈ b w.0 (data_map (kind_of s) s) w.2)

  -- a text section
  text-stands : (s : Section) → s ∈ a.sections → kind_of s ≡ Kind.Text
      → (t : Section) × (t ∈ b.sections) × (t.name ≡ s.name) × (t.index ≡ s.index) × (kind_of t ≡ kind_of s) × (t.bytes ≡ s.bytes)
  text-stands s m e = found (section-stands s m (rw e))
    where
      found : (t : Section) × (t ∈ b.sections) × (t.name ≡ s.name) × (t.index ≡ s.index)
          → (t : Section) × (t ∈ b.sections) × (t.name ≡ s.name) × (t.index ≡ s.index) × (kind_of t ≡ kind_of s) × (t.bytes ≡ s.bytes)
      found w =
          let t = w.0 in
          let k : kind_of t ≡ Kind.Text = same_text s t w.2 e in
          let p : each function_code (functions_in s.index (catalogue_of a)) ≡ s.bytes = (text-is-its-functions a s wa ha m e).bytes in
          let q : each function_code (functions_in t.index (catalogue_of b)) ≡ t.bytes = (text-is-its-functions b t wb hb w.1 k).bytes in
          let r : each function_code (functions_in s.index (catalogue_of a)) ≡ each function_code (functions_in t.index (catalogue_of b)) =
          λ i. each function_code (functions_in (sym w.3 i) (eq i)) in
          (t, w.1, w.2, w.3, k ∙ sym e, sym q ∙ sym r ∙ p)

  -- a program section: each byte that a listed function covers
  program-agrees : (s : Section) (f : Function) → s ∈ a.sections → kind_of s ≡ Kind.Program → f ∈ functions_in s.index (catalogue_of a) → Agree a b s f
  unfolding catalogue_of
  program-agrees s f m e n =
      let (u, v) = keep-∈ (λ g. eqb s.index.0 g.section.0) f (catalogue_of a).functions n in
      let n : s.index.0 ≡ f.section.0 = eqb-true s.index.0 f.section.0 v in
      let i : s.index ≡ f.section = λ k. record { 0 = n k } in
      let there : f ∈ (catalogue_of b).functions = subst (λ c. f ∈ c.functions) eq u in
      found i (section-stands s m (rw e)) (each-∈ (functions_of a) f a.sections (table-∈ function_key f (each (functions_of a) a.sections) u))
      (each-∈ (functions_of b) f b.sections (table-∈ function_key f (each (functions_of b) b.sections) there))
    where
      last : (t : Section) (y z : Symbol) → t ∈ b.sections → t.name ≡ s.name → t.index ≡ s.index → kind_of t ≡ Kind.Program
          → y ∈ program_symbols a s → f ≡ program_function s y → z ∈ program_symbols b t → f ≡ program_function t z → Agree a b s f
      last t y z k x i g yn yq zn zq =
          let (p₁, p₂, p₃) = program-bytes a s y f wa ha m e yn yq in
          let (q₁, q₂, q₃) = program-bytes b t z f wb hb k g zn zq in
          let fy : y.address + y.size ≤ length s.bytes = (program-accepted a s y ha m e yn).inside in
          let fz : z.address + z.size ≤ length t.bytes = (program-accepted b t z hb k g zn).inside in
          let ad : z.address ≡ y.address = sym q₁ ∙ p₁ in
          let sz : z.size ≡ y.size = sym q₃ ∙ p₃ in
          let pe : part t.bytes y.address y.size ≡ part s.bytes y.address y.size =
          (λ r. part t.bytes (sym ad r) (sym sz r)) ∙ sym q₂ ∙ p₂ in
          record {
            section = t;
            among = k;
            name = x;
            index = i;
            kind = g;
            symbol = y;
            of = yn;
            listed = yq;
            size = p₃;
            fits = (rw p₁ fy, rw (p₁, ← ad, ← sz) fz);
            bytes = λ j h. rw p₁ (sym (byte-of-part t.bytes y.address y.size j h) ∙ ap (λ l. get_or l j 0) pe ∙ byte-of-part s.bytes y.address y.size j h);
          }

      there-is : (t : Section) → t ∈ b.sections → t.name ≡ s.name → t.index ≡ s.index → f ∈ functions_of b t
          → (kind_of t ≡ Kind.Program) ⊎ (kind_of t ≡ Kind.Undefined) → (y : Symbol) × (y ∈ program_symbols a s) × (f ≡ program_function s y) → Agree a b s f
      there-is t k x i n (inl g) y = let (z, zn, zq) = program-functions b t f g n in last t y.0 z k x i g y.1 y.2 zn zq
      there-is t k x i n (inr g) y = absurd (other-functions b t f g n)

      found : s.index ≡ f.section → (t : Section) × (t ∈ b.sections) × (t.name ≡ s.name) × (t.index ≡ s.index)
          → (r : Section) × (r ∈ a.sections) × (f ∈ functions_of a r) → (r : Section) × (r ∈ b.sections) × (f ∈ functions_of b r) → Agree a b s f
      found i t x y =
          let sx : x.0 ≡ s = one_index 0 a.sections x.0 s wa.rising x.1 m (sym (functions-section a x.0 f x.2) ∙ sym i) in
          let ty : y.0 ≡ t.0 = one_index 0 b.sections y.0 t.0 wb.rising y.1 t.1 (sym (functions-section b y.0 f y.2) ∙ sym i ∙ sym t.3) in
          let fs : f ∈ functions_of a s = subst (λ r. f ∈ functions_of a r) sx x.2 in
          let ft : f ∈ functions_of b t.0 = subst (λ r. f ∈ functions_of b r) ty y.2 in
          there-is t.0 t.1 t.2 t.3 ft (same-program s t.0 t.2 e) (program-functions a s f e fs)

-- ---- both together

-- accepted without patches or rewriting
plain : (o : Object) (c : Catalogue) → load o [] false ≡ accepted c → Accepted o × (catalogue_of o ≡ c)
unfolding load finish patched
plain o c h = go (refusal_of o []) refl h
  where
    go : (r : Option Refusal) → refusal_of o [] ≡ r → verdict r (catalogue_of o) ≡ accepted c → (refusal_of o [] ≡ None) × (catalogue_of o ≡ c)
    go None e q = (e, accepted-is q)
    go (Some r) e q = let z : ◌≡◌ {A = ℕ} 0 1 = cc in let no : ⊥ = omega arith in absurd no

one_side : (a b : Object) (c : Catalogue) → Stated a → Stated b → Accepted a → Accepted b → catalogue_of a ≡ c → catalogue_of b ≡ c → Fair a → FirstHalf a b c
one_side a b c wa wb ha hb ea eb fa =
    record {
      whole = λ s m k. stands s m k;
      texts = λ s m k. rw (← ea) (text-is-its-functions a s wa ha m k);
      programs = λ s f m k n. program-agrees a b wa wb ha hb (ea ∙ sym eb) fa s f m k (rw (← ea) at n);
    }
  where
    stands : (s : Section) → s ∈ a.sections → Whole (kind_of s) → Stands b s
    stands s m (inl k) =
        let (t, n, p, q, u, v) = text-stands a b wa wb ha hb (ea ∙ sym eb) fa s m k in record { section = t; among = n; name = p; index = q; kind = u; bytes = v }
    stands s m (inr (inl k)) =
        let (t, n, p, q, u, v) = data-stands a b wa wb ha hb (ea ∙ sym eb) fa s m (rw k) (rw k) (rw k) in
        record { section = t; among = n; name = p; index = q; kind = u; bytes = v }
    stands s m (inr (inr k)) =
        let (t, n, p, q, u, v) = data-stands a b wa wb ha hb (ea ∙ sym eb) fa s m (rw k) (rw k) (rw k) in
        record { section = t; among = n; name = p; index = q; kind = u; bytes = v }

pub first-half : FirstHalfOfObjects
first-half a b c wa wb ha hb fa fb =
    let (xa, ea) = plain a c ha in
    let (xb, eb) = plain b c hb in
    (one_side a b c wa wb xa xb ea eb fa, one_side b a c wb wa xb xa eb ea fb)
