-- Number 2 by places: what each loop tests, and that together they are the rules of the model.
use Rattle.std.specs.Prelude.{◌≡◌, cond, ◌&&◌, not, eqb, length, take, drop, None, Some}
use Rattle.std.proofs.Math.Path.{refl, ap, ap₂, fun_ext}
use Rattle.std.proofs.Common.{sym, subst, ◌∙◌}
use Rattle.std.proofs.Math.Bool.{Bool, true, false, ◌||◌, and_assoc, and_comm, and-eq-true_iff}
use mathlib.Core.List.{List, [], ◌∷◌, map}
use Prim.Native.Nat.{ℕ, zero, suc, ◌+◌, ◌-◌, ◌*◌, ◌/◌, ◌%◌, ◌≤◌}
use borrow.Author.Tests.{leb-true}
use Rattle.std.proofs.Math.Dec.{leb, ltb}
use Rattle.std.proofs.Math.Seq.{drop-nil}
use Rattle.lists.specs.Tab.{tab}
use Rattle.model.specs.declared.Extent.{Extent}
use Rattle.model.specs.declared.Head.{Head}
use Rattle.model.specs.declared.SectionRecord.{SectionRecord}
use Rattle.model.specs.declared.SymbolRecord.{SymbolRecord}
use Rattle.model.specs.Bytes.{ascii, same, is_some, first_in, find, or_else}
use Rattle.model.specs.Deposit.{most_bytes, stream_of, Stream, parts_from, end_of, all, all_zero, within, cut_out, name_ok, section_ok, symbol_ok, relocation_ok, rising_from, records_ok, section_of, stated_by, has_btf}
use Rattle.stream.specs.Stream.{bytes_at}
use Rattle.stream.specs.Laws.{part_bytes}
use Rattle.records.specs.Records.{names_at, deposit_section, deposit_symbol, deposit_relocation}
use Rattle.deposit_rules.specs.Parts.{parts-sections, parts-symbols, parts-relocations, parts-names, parts-rest}

-- ---- a walk over records whose indexes rise

module _ {A : Type 0} (index : A → ℕ) (ok : A → Bool) where
  -- from a record on whose predecessor has index n
  unfoldable pub ruled : ℕ → List A → Bool
  ruled n [] = true
  ruled n (r ∷ rs) = ltb n (index r) && (ok r && ruled (index r) rs)

module _ {A : Type 0} where
  -- one of them passes the test
  unfoldable pub some_of : (A → Bool) → List A → Bool
  some_of p [] = false
  some_of p (x ∷ xs) = p x || some_of p xs

shuffle : (a x b y : Bool) → (a && x && (b && y)) ≡ (a && (b && (x && y)))
shuffle true true b y = refl
shuffle true false true y = refl
shuffle true false false y = refl
shuffle false x b y = refl

module _ {A : Type 0} where
  ruled-is : (index : A → ℕ) (ok : A → Bool) (n : ℕ) (rs : List A) → (rising_from n (map index rs) && all ok rs) ≡ ruled index ok n rs
  unfolding ruled rising_from all
  ruled-is index ok n [] = refl
  ruled-is index ok n (r ∷ rs) =
      shuffle (ltb n (index r)) (rising_from (index r) (map index rs)) (ok r) (all ok rs)
      ∙ ap (λ (b : Bool). ltb n (index r) && (ok r && b)) (ruled-is index ok (index r) rs)

  find-some : (p : A → Bool) (xs : List A) → is_some (find p xs) ≡ some_of p xs
  unfolding find first_in some_of
  find-some p [] = refl
  find-some p (x ∷ xs) = go (p x) ∙ ap (λ (b : Bool). p x || b) (find-some p xs)
    where
      go : (b : Bool) → is_some (or_else (cond b (Some x) None) (find p xs)) ≡ (b || is_some (find p xs))
      go true = refl
      go false = refl

  some_same : (ok p q : A → Bool) (xs : List A) → all ok xs ≡ true → ((x : A) → ok x ≡ true → p x ≡ q x) → some_of p xs ≡ some_of q xs
  unfolding some_of all
  some_same ok p q [] e h = refl
  some_same ok p q (x ∷ xs) e h =
      let s = (and-eq-true_iff (ok x) (all ok xs)).0 e in ap₂ ◌||◌ (h x s.0) (some_same ok p q xs s.1 h)

  pub ruled-all : (index : A → ℕ) (ok : A → Bool) (n : ℕ) (rs : List A) → ruled index ok n rs ≡ true → all ok rs ≡ true
  ruled-all index ok n rs e = ((and-eq-true_iff (rising_from n (map index rs)) (all ok rs)).0 (ruled-is index ok n rs ∙ e)).1

some-map : {A B : Type 0} (p : B → Bool) (g : A → B) (xs : List A) → some_of p (map g xs) ≡ some_of (λ x. p (g x)) xs
unfolding some_of
some-map p g [] = refl
some-map p g (x ∷ xs) = ap (λ (b : Bool). p (g x) || b) (some-map p g xs)

-- ---- the rules of a record

abbrev pub name_byte : ℕ → Bool
name_byte b = leb 1 b && leb b 127

module _ (d : List ℕ) (h : Head) where
  abbrev pub stream_name : Extent → List ℕ
  stream_name e = bytes_at d 4 (names_at h + e.at) e.length

  -- each byte of the table may stand in a name
  unfoldable pub names_ok : Bool
  names_ok = all name_byte (bytes_at d 4 (names_at h) h.names)

  -- it is known, or it is not
  abbrev pub Clean : Bool → Type 0
  Clean b = b ≡ true → names_ok ≡ true

  unfoldable pub name_ok_at : Extent → Bool
  name_ok_at e = leb e.length 65535 && (within e h.names && all name_byte (stream_name e))

  unfoldable pub section_ok_at : SectionRecord → Bool
  section_ok_at r =
      leb r.mark 1
      && (name_ok_at r.name
      && (leb r.size most_bytes
      && (within r.bytes h.bytes
      && within r.relocations h.relocations)))

  unfoldable pub symbol_ok_at : SymbolRecord → Bool
  symbol_ok_at r =
      not (eqb r.section.0 0)
      && (name_ok_at r.name
      && (leb r.kind 2
      && (leb r.definition 1
      && eqb r.reserved 0)))

  abbrev pub is_btf : SectionRecord → Bool
  is_btf r = same (ascii ".BTF") (stream_name r.name)

  -- ---- all records

  unfoldable pub sections_ok : Bool
  sections_ok = ruled (λ r. r.index.0) section_ok_at 0 (tab (deposit_section d) h.sections)

  unfoldable pub symbols_ok : Bool
  symbols_ok = ruled (λ r. r.index.0) symbol_ok_at 0 (tab (deposit_symbol d h) h.symbols)

  unfoldable pub relocations_ok : Bool
  relocations_ok = all relocation_ok (tab (deposit_relocation d h) h.relocations)

  unfoldable pub rest_ok : Bool
  rest_ok = all_zero (bytes_at d 4 (end_of h) (length d / 512 * 508 - end_of h))

  unfoldable pub records_ok_at : Bool
  records_ok_at = rest_ok && (symbols_ok && (relocations_ok && sections_ok))

  unfoldable pub some_btf : Bool
  some_btf = some_of is_btf (tab (deposit_section d) h.sections)

-- ---- a name in a table of such bytes

module _ {A : Type 0} (p : A → Bool) where
  all_drop : (n : ℕ) (xs : List A) → all p xs ≡ true → all p (drop n xs) ≡ true
  unfolding all
  all_drop n [] e = rw (drop-nil n) refl
  all_drop zero (x ∷ xs) e = e
  all_drop (suc n) (x ∷ xs) e = all_drop n xs ((and-eq-true_iff (p x) (all p xs)).0 e).1

  all_take : (n : ℕ) (xs : List A) → all p xs ≡ true → all p (take n xs) ≡ true
  unfolding all
  all_take zero xs e = refl
  all_take (suc n) [] e = refl
  all_take (suc n) (x ∷ xs) e = let s = (and-eq-true_iff (p x) (all p xs)).0 e in (and-eq-true_iff (p x) (all p (take n xs))).1 (s.0, all_take n xs s.1)

pub name-inside : (d : List ℕ) (h : Head) (e : Extent) → within e h.names ≡ true → names_ok d h ≡ true → all name_byte (stream_name d h e) ≡ true
unfolding names_ok
name-inside d h e w k =
    subst (λ bs. all name_byte bs ≡ true) (part_bytes d 4 (names_at h) h.names e.at e.length (leb-true _ _ w))
    (all_take name_byte e.length _ (all_drop name_byte e.at _ k))

-- ---- they are the model's

reorder : (a b x y z : Bool) → (a && (b && (x && (y && z)))) ≡ (x && y && (z && (a && b)))
reorder a b x y z =
    sym (and_assoc a b (x && (y && z))) ∙ ap (λ (c : Bool). a && b && c) (sym (and_assoc x y z)) ∙ and_comm (a && b) (x && y && z) ∙ and_assoc (x && y) z (a && b)

module _ (d : List ℕ) (whole : length d % 512 ≡ 0) (h : Head) (inside : end_of h ≤ length d / 512 * 508) where
  abbrev parts : Stream
  parts = parts_from h (stream_of d)

  pub name-cut : (e : Extent) → e.at + e.length ≤ h.names → cut_out e (parts_from h (stream_of d)).names ≡ stream_name d h e
  name-cut e l = ap (cut_out e) (parts-names d whole h inside) ∙ part_bytes d 4 (names_at h) h.names e.at e.length l

  name-ok : (e : Extent) → name_ok parts e ≡ name_ok_at d h e
  unfolding name_ok name_ok_at parts_from
  name-ok e = ap (λ (b : Bool). leb e.length 65535 && b) (go (within e h.names) refl)
    where
      go : (b : Bool) → within e h.names ≡ b
          → (b && all name_byte (cut_out e parts.names)) ≡ (b && all name_byte (stream_name d h e))
      go true t = ap (all name_byte) (name-cut e (leb-true _ _ t))
      go false t = refl

  section-ok : (r : SectionRecord) → section_ok parts r ≡ section_ok_at d h r
  unfolding section_ok section_ok_at parts_from
  section-ok r = rw (name-ok r.name)

  symbol-ok : (r : SymbolRecord) → symbol_ok parts r ≡ symbol_ok_at d h r
  unfolding symbol_ok symbol_ok_at
  symbol-ok r = rw (name-ok r.name)

  sections-ok : (rising_from 0 (map (λ r. r.index.0) parts.sections) && all (section_ok parts) parts.sections) ≡ sections_ok d h
  unfolding sections_ok
  sections-ok =
      ruled-is (λ r. r.index.0) (section_ok parts) 0 parts.sections
      ∙ ap₂ (λ (ok : SectionRecord → Bool) (rs : List SectionRecord). ruled (λ r. r.index.0) ok 0 rs) (fun_ext section-ok) (parts-sections d whole h inside)

  symbols-ok : (rising_from 0 (map (λ r. r.index.0) parts.symbols) && all (symbol_ok parts) parts.symbols) ≡ symbols_ok d h
  unfolding symbols_ok
  symbols-ok =
      ruled-is (λ r. r.index.0) (symbol_ok parts) 0 parts.symbols
      ∙ ap₂ (λ (ok : SymbolRecord → Bool) (rs : List SymbolRecord). ruled (λ r. r.index.0) ok 0 rs) (fun_ext symbol-ok) (parts-symbols d whole h inside)

  relocations-ok : all relocation_ok parts.relocations ≡ relocations_ok d h
  unfolding relocations_ok
  relocations-ok = ap (all relocation_ok) (parts-relocations d whole h inside)

  rest_ok_lem : all_zero parts.rest ≡ rest_ok d h
  unfolding rest_ok
  rest_ok_lem = ap all_zero (parts-rest d whole h inside)

  pub records-ok : records_ok (parts_from h (stream_of d)) ≡ records_ok_at d h
  unfolding records_ok records_ok_at
  records-ok =
      ap (λ (b : Bool). all_zero parts.rest && b)
      (reorder (rising_from 0 (map (λ r. r.index.0) parts.sections)) (all (section_ok parts) parts.sections)
      (rising_from 0 (map (λ r. r.index.0) parts.symbols)) (all (symbol_ok parts) parts.symbols) (all relocation_ok parts.relocations))
      ∙ rw (rest_ok_lem, symbols-ok, relocations-ok, sections-ok)

  name-within : (e : Extent) → name_ok_at d h e ≡ true → e.at + e.length ≤ h.names
  unfolding name_ok_at
  name-within e t =
      let s = (and-eq-true_iff (leb e.length 65535) (within e h.names && all name_byte (stream_name d h e))).0 t in
      leb-true _ _ ((and-eq-true_iff (within e h.names) (all name_byte (stream_name d h e))).0 s.1).0

  section-name : (r : SectionRecord) → section_ok_at d h r ≡ true → name_ok_at d h r.name ≡ true
  unfolding section_ok_at
  section-name r t =
      let rest : Bool = leb r.size most_bytes && (within r.bytes h.bytes && within r.relocations h.relocations) in
      let s = (and-eq-true_iff (leb r.mark 1) (name_ok_at d h r.name && rest)).0 t in
      ((and-eq-true_iff (name_ok_at d h r.name) rest).0 s.1).0

  -- '3. A section is named `.BTF`.'
  pub btf-is : sections_ok d h ≡ true → has_btf (stated_by (parts_from h (stream_of d))) ≡ some_btf d h
  unfolding has_btf stated_by section_of some_btf sections_ok
  btf-is t =
      find-some (λ s. same (ascii ".BTF") s.name) (map (section_of parts) parts.sections)
      ∙ some-map (λ s. same (ascii ".BTF") s.name) (section_of parts) parts.sections
      ∙ ap (some_of (λ r. same (ascii ".BTF") (cut_out r.name parts.names))) (parts-sections d whole h inside)
      ∙ some_same (section_ok_at d h) (λ r. same (ascii ".BTF") (cut_out r.name parts.names)) (is_btf d h) (tab (deposit_section d) h.sections)
      (ruled-all (λ r. r.index.0) (section_ok_at d h) 0 (tab (deposit_section d) h.sections) t)
      (λ r o. ap (same (ascii ".BTF")) (name-cut r.name (name-within r.name (section-name r o))))
