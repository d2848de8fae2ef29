-- What a call lends back: its catalogue can be read back from it, so equal answers and contents mean equal catalogues; and no lent length changes.
use Rattle.std.specs.Prelude.{◌≡◌, refl, ◌⊎◌, Bool, true, false, cond, ◌&&◌, List, [], ◌∷◌, map, ℕ, zero, suc, ◌+◌, ◌-◌, ◌/◌, ◌<◌, ◌≤◌, ltb, eqb, leb, ℤ, pos, negsuc, length, take, drop, replicate, None, Option, Some}
use Rattle.std.proofs.Common.{sym, ap, ◌∙◌, inl, inr, arith, ltb-true, ltb-false, leb-true, length-append}
use Rattle.std.proofs.lemmas.List.{length-replicate}
use Rattle.model.specs.declared.EbpfSectionKind.{EbpfSectionKind as Kind}
use Rattle.model.specs.declared.BpfInsn.{BpfInsn}
use Rattle.model.specs.Bytes.{each, little, part, maybe, ◌∈◌}
use Rattle.model.specs.Object.{Section, Symbol, Object, Patch}
use Rattle.model.specs.SectionKind.{is_kind, kind_of}
use Rattle.model.specs.Instruction.{signed, instruction_of, instructions, stated, stated_for}
use Rattle.model.specs.Catalogue.{Function, Map, Catalogue, function_key, map_key}
use Rattle.model.specs.Symbols.{lies_in, symbols_of, program_symbols, Stop, walk_of}
use Rattle.model.specs.Contents.{function_at, program_function, text_function, functions_of, words_of, record_of, legacy_map, data_words, data_map, maps_of, catalogue_of}
use Rattle.model.specs.Patching.{Verdict, refused, accepted}
use Rattle.model.specs.PatchList.{patches_of}
use Rattle.model.specs.Lent.{Lent, image_of, fits_in, filled, zero_row, filled_to, zeroed, outcome_if_fits, outcome_in}
use Rattle.model.specs.declared.Room.{Room}
use Rattle.model.specs.ReadBack.{read_back}
use Rattle.guarantees.specs.OptionsAndLists.{map-∈, each-∈, both_true}
use Rattle.guarantees.specs.TableLaws.{keep-∈, table-∈}
use Rattle.model.specs.Bytes.{AllBytes}
use Rattle.guarantees.specs.WordsOfDemand3.{Input, input_bytes, object_read, verdict_on, outcome_on, instruction_after, function_after, map_after, after}
use Rattle.encoding.specs.Code.{all_drop, all_take}
use Rattle.guarantees.specs.ReadBackImage.{Within, Ranged, Numbered, Sound}
use Rattle.guarantees.proofs.ReadBackImage.{read-back-filled}
use Rattle.guarantees.proofs.FirstHalf.{maps-∈}
use Rattle.guarantees.specs.AcceptedInputs.{outcome-is, input-accepted, input-stated}
use Rattle.guarantees.proofs.AcceptedInputs.{input-symbols, input-after}
use Rattle.guarantees.specs.LentBack.{Lengths, LentLengths, LentReadBack, OneCatalogue, given_is}

-- ---- instructions read from bytes

signed-within : (half n : ℕ) → n < half + half → Within half (signed half n)
unfolding signed
signed-within half n h = go (ltb n half) refl
  where
    go : (b : Bool) → ltb n half ≡ b → Within half (cond b (pos n) (negsuc (half + half - suc n)))
    go true e = ltb-true _ _ e
    go false e = let k : half ≤ n = ltb-false _ _ e in omega arith

two-below : (l : List ℕ) → AllBytes l → little (take 2 l) < 32768 + 32768
unfolding little
two-below [] h = omega arith
two-below (a ∷ []) h = let p : a < 256 = h.0 in omega arith
two-below (a ∷ b ∷ l) h = let p : a < 256 = h.0 in let q : b < 256 = h.1.0 in omega arith

four_below : (l : List ℕ) → AllBytes l → little (take 4 l) < 2147483648 + 2147483648
unfolding little
four_below [] h = omega arith
four_below (a ∷ []) h = let p : a < 256 = h.0 in omega arith
four_below (a ∷ b ∷ []) h = let p : a < 256 = h.0 in let q : b < 256 = h.1.0 in omega arith
four_below (a ∷ b ∷ c ∷ []) h = let p : a < 256 = h.0 in let q : b < 256 = h.1.0 in let r : c < 256 = h.1.1.0 in omega arith
four_below (a ∷ b ∷ c ∷ d ∷ l) h =
    let p : a < 256 = h.0 in let q : b < 256 = h.1.0 in let r : c < 256 = h.1.1.0 in let s : d < 256 = h.1.1.1.0 in omega arith

instruction-ranged : (d : List ℕ) → AllBytes d → Ranged (instruction_of d)
unfolding instruction_of
instruction-ranged d h =
    record {
      off = signed-within 32768 (little (part d 2 2)) (two-below (drop 2 d) (all_drop 2 d h));
      imm = signed-within 2147483648 (little (part d 4 4)) (four_below (drop 4 d) (all_drop 4 d h));
    }

instructions-ranged : (n : ℕ) (d : List ℕ) (i : BpfInsn) → AllBytes d → i ∈ instructions n d → Ranged i
unfolding instructions
instructions-ranged zero d i h m = absurd m
instructions-ranged (suc n) d i h (inl q) = rw q (instruction-ranged (take 8 d) (all_take 8 d h))
instructions-ranged (suc n) d i h (inr m) = instructions-ranged n (drop 8 d) i (all_drop 8 d h) m

-- ---- rewriting keeps the range

stated-within : (z : ℤ) → Within 2147483648 z → Within 2147483648 (stated z)
unfolding stated
stated-within (pos n) h = go (eqb n 112) (eqb n 113) (eqb n 114) (eqb n 115)
  where
    go : (a b c d : Bool) → cond a 4 (cond b 4 (cond c 45 (cond d 45 n))) < 2147483648
    go true b c d = omega arith
    go false true c d = omega arith
    go false false true d = omega arith
    go false false false true = omega arith
    go false false false false = h
stated-within (negsuc n) h = h

after-ranged : (on : Bool) (i : BpfInsn) → Ranged i → Ranged (instruction_after on i)
unfolding instruction_after stated_for
after-ranged on i h = record { off = h.off; imm = go on (eqb i.code 0x85 && eqb i.regs 0) }
  where
    go : (a b : Bool) → Within 2147483648 (cond a (cond b (stated i.imm) i.imm) i.imm)
    go true true = stated-within i.imm h.imm
    go true false = h.imm
    go false b = h.imm

-- ---- a load's catalogue is sound

-- what is asked of the object
pub record Plain (o : Object) : Type 0 where
  pub bytes : (s : Section) → s ∈ o.sections → AllBytes s.bytes
  pub symbols : (y : Symbol) → y ∈ o.symbols → 0 < y.index.0

code_at : (s : Section) (a at : ℕ) (y : Symbol) (i : BpfInsn) → AllBytes s.bytes → i ∈ (function_at s a at y).code → Ranged i
unfolding function_at
code_at s a at y i h m = instructions-ranged (y.size / 8) (part s.bytes at y.size) i (all_take y.size (drop at s.bytes) (all_drop at s.bytes h)) m

function-made : (o : Object) (s : Section) (f : Function) → f ∈ functions_of o s → (a : ℕ) × (at : ℕ) × (y : Symbol) × (f ≡ function_at s a at y)
unfolding functions_of text_function program_function
function-made o s f m = go (is_kind Kind.Program (kind_of s)) (is_kind Kind.Text (kind_of s)) m
  where
    here : (p : Stop) (y : Option Symbol) → f ∈ maybe y [] (λ z. function_at s (s.address + p.at) p.at z ∷ [])
        → (a : ℕ) × (at : ℕ) × (y : Symbol) × (f ≡ function_at s a at y)
    here p None n = absurd n
    here p (Some y) (inl q) = (s.address + p.at, p.at, y, q)
    here p (Some y) (inr n) = absurd n

    go : (b c : Bool) → f ∈ cond b (map (program_function s) (program_symbols o s)) (cond c (each (text_function s) (walk_of o s)) [])
        → (a : ℕ) × (at : ℕ) × (y : Symbol) × (f ≡ function_at s a at y)
    go true c m = let (y, n, q) = map-∈ (program_function s) f (program_symbols o s) m in (y.address, y.address, y, q)
    go false true m = let (p, n, k) = each-∈ (text_function s) f (walk_of o s) m in here p p.met k
    go false false m = absurd m

function-sound : (o : Object) (f : Function) (i : BpfInsn) → Plain o → f ∈ (catalogue_of o).functions → i ∈ f.code → Ranged i
unfolding catalogue_of
function-sound o f i h m n =
    let (s, k, e) = each-∈ (functions_of o) f o.sections (table-∈ function_key f (each (functions_of o) o.sections) m) in
    let (a, at, y, q) = function-made o s f e in
    code_at s a at y i (h.bytes s k) (rw q at n)

-- of a map that the catalogue lists: a symbol numbered from 1 or none, and seven words
pub record MapSound (m : Map) : Type 0 where
  pub symbol : Numbered m.symbol
  pub words : length m.def.words ≡ 7

legacy-sound : (s : Section) (y : Symbol) → 0 < y.index.0 → MapSound (legacy_map s y)
unfolding legacy_map record_of words_of
legacy-sound s y h = record { symbol = h; words = refl }

data-sound : (k : Kind) (s : Section) → MapSound (data_map k s)
unfolding data_map data_words
data-sound k s = record { symbol = tt; words = refl }

map-sound : (o : Object) (w : Map) → Plain o → w ∈ (catalogue_of o).maps → MapSound w
unfolding catalogue_of symbols_of
map-sound o w h m =
    let (s, k, e) = each-∈ (maps_of o) w o.sections (table-∈ map_key w (each (maps_of o) o.sections) m) in
    go s (maps-∈ o s w e)
  where
    go : (s : Section) → ((kind_of s ≡ Kind.Maps) × ((y : Symbol) × (y ∈ symbols_of o s) × (w ≡ legacy_map s y))) ⊎ (w ≡ data_map (kind_of s) s) → MapSound w
    go s (inl (a, (y, n, q))) = rw q (legacy-sound s y (h.symbols y (keep-∈ (λ z. lies_in s.index z.section) y o.symbols n).0))
    go s (inr q) = rw q (data-sound (kind_of s) s)

pub catalogue-sound : (o : Object) → Plain o → Sound (catalogue_of o)
catalogue-sound o h =
    record { code = λ f m i n. function-sound o f i h m n; symbols = λ w m. (map-sound o w h m).symbol; words = λ w m. (map-sound o w h m).words }

after-sound : (o : Object) (ps : List Patch) (on : Bool) (c : Catalogue) → Sound c → Sound (after o ps on c)
unfolding after function_after map_after
after-sound o ps on c h =
    record {
      code = λ f m i n.
          let (g, k, q) = map-∈ (function_after on) f c.functions m in
          let n' : i ∈ map (instruction_after on) g.code = rw q at n in
          let (j, l, r) = map-∈ (instruction_after on) i g.code n' in
          rw r (after-ranged on j (h.code g k j l));
      symbols = λ w m.
          let (v, k, q) = map-∈ (map_after o ps) w c.maps m in
          let e : w.symbol ≡ v.symbol = ap (λ x. x.symbol) q in
          rw e (h.symbols v k);
      words = λ w m.
          let (v, k, q) = map-∈ (map_after o ps) w c.maps m in
          let e : w.def ≡ v.def = ap (λ x. x.def) q in
          rw e (h.words v k);
    }

-- every catalogue that a load gives is sound
pub loaded-sound : (x : Input) (ps : List Patch) (on : Bool) (c : Catalogue) → AllBytes (input_bytes x) → verdict_on x ps on ≡ accepted c → Sound c
loaded-sound x ps on c y h =
    let o = object_read x in
    let e = (input-accepted x ps on c h).0 in
    let pl : Plain o = record { bytes = (input-stated x y e).bytes; symbols = λ z m. input-symbols x z e m } in
    rw (input-after x ps on c h).1 (after-sound o ps on (catalogue_of o) (catalogue-sound o pl))

-- ---- what is lent back

pub lent-read-back : LentReadBack
lent-read-back x entries bytes on room h y q =
    let g = given_is x entries bytes on room h q in
    let c = g.catalogue in
    let e : read_back h (outcome_on x entries bytes on room).lent ≡ c =
    (λ k. read_back (g.summary k) (g.lent k)) ∙ read-back-filled c room (loaded-sound x (patches_of entries bytes) on c y g.answer) in
    g.answer ∙ ap accepted (sym e)

pub one-catalogue : OneCatalogue
one-catalogue a b entries bytes entries₂ bytes₂ on on₂ room room₂ h y z p q l =
    lent-read-back a entries bytes on room h y p ∙ ap (λ x. accepted (read_back h x)) l ∙ sym (lent-read-back b entries₂ bytes₂ on₂ room₂ h z q)

-- ---- the lent lengths stay

filled-length : {A : Type 0} (z : A) (n : ℕ) (xs : List A) → leb (length xs) n ≡ true → length (filled z n xs) ≡ n
filled-length z n xs h =
    let k : length xs ≤ n = leb-true _ _ h in
    length-append xs (replicate (n - length xs) z) ∙ omega (arith, length-replicate (n - length xs) z)

zeroed-lengths : (room : Room) → Lengths room (zeroed room)
unfolding zeroed
zeroed-lengths room =
    record {
      sections = length-replicate room.sections 0;
      programs = length-replicate room.programs 0;
      functions = length-replicate room.functions zero_row;
      maps = length-replicate room.maps 0;
      relocations = length-replicate room.relocations 0;
      bytes = length-replicate room.bytes 0;
    }

filled-lengths : (room : Room) (i : Lent) → fits_in room i ≡ true → Lengths room (filled_to room i)
unfolding filled_to fits_in
filled-lengths room i e =
    let s = leb (length i.sections) room.sections in
    let p = leb (length i.programs) room.programs in
    let f = leb (length i.functions) room.functions in
    let m = leb (length i.maps) room.maps in
    let r = leb (length i.relocations) room.relocations in
    let b = leb (length i.bytes) room.bytes in
    let (e₁, t₁) = both_true s (p && (f && (m && (r && b)))) e in
    let (e₂, t₂) = both_true p (f && (m && (r && b))) t₁ in
    let (e₃, t₃) = both_true f (m && (r && b)) t₂ in
    let (e₄, t₄) = both_true m (r && b) t₃ in
    let (e₅, e₆) = both_true r b t₄ in
    record {
      sections = filled-length 0 room.sections i.sections e₁;
      programs = filled-length 0 room.programs i.programs e₂;
      functions = filled-length zero_row room.functions i.functions e₃;
      maps = filled-length 0 room.maps i.maps e₄;
      relocations = filled-length 0 room.relocations i.relocations e₅;
      bytes = filled-length 0 room.bytes i.bytes e₆;
    }

pub lent-lengths : LentLengths
lent-lengths x entries bytes on room = rw (outcome-is x entries bytes on room) (go (verdict_on x (patches_of entries bytes) on))
  where
    fit : (c : Catalogue) (b : Bool) → fits_in room (image_of c) ≡ b → Lengths room (outcome_if_fits room c b).lent
    fit c true f = filled-lengths room (image_of c) f
    fit c false f = zeroed-lengths room

    go : (a : Verdict) → Lengths room (outcome_in room a).lent
    go (refused r) = zeroed-lengths room
    go (accepted c) = fit c (fits_in room (image_of c)) refl
