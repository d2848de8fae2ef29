-- Demand 3, second half, on objects: an accepted patch list and rewriting come to `after`, by induction on the list, byte by byte.
use Rattle.std.specs.Prelude.{◌≡◌, refl, Bool, true, false, cond, ◌&&◌, ◌||◌, not, List, [], ◌∷◌, ◌++◌, map, ℕ, suc, ◌+◌, ◌-◌, ◌<◌, ◌≤◌, eqb, ltb, leb, ℤ, pos, negsuc, length, get_or, None, Option, Some}
use Rattle.std.proofs.Common.{sym, ap, ◌∙◌, inl, inr, arith, eqb-true, ltb-true, ltb-false, leb-true, leb-false}
use Rattle.std.proofs.lemmas.Simd.{map-map}
use Rattle.std.proofs.lemmas.Bool.{not-false}
use Rattle.std.proofs.lemmas.List.Edits.{sets}
use Rattle.std.proofs.Math.Seq.{length-sets}
use Rattle.lists.specs.Tab.{tab, tab-ext, length-tab, get_or-tab, is-tab}
use Rattle.model.specs.declared.SectionIndex.{SectionIndex}
use Rattle.model.specs.declared.BpfInsn.{BpfInsn}
use Rattle.model.specs.declared.Refusal.{Refusal}
use Rattle.model.specs.Bytes.{or_else, maybe, ◌∈◌}
use Rattle.model.specs.Object.{Symbol, Object, Patch}
use Rattle.model.specs.Symbols.{lies_in}
use Rattle.model.specs.Instruction.{stated, stated_for, rewrite}
use Rattle.model.specs.Catalogue.{Function, Map, Catalogue}
use Rattle.model.specs.Contents.{catalogue_of}
use Rattle.model.specs.Refusals.{no_section, no_symbol, of_entry, object_refusal, bearers, place_refusal, bearer_refusal, entry_refusal, patch_refusal, refusal_of}
use Rattle.model.specs.Patching.{patch_map, with_maps, patch_maps, patched, rewrite_function, rewritten, accepted, verdict, finish, load}
use Rattle.guarantees.specs.WordsOfDemand3.{given_by, given, last_given, byte_after, map_after, Becomes, NamedWith, instruction_after, function_after, after}
use Rattle.guarantees.specs.OptionsAndLists.{not_some, or_else-none, refuse-none, sets-in, sets-out, map-ext, map-fixed}
use Rattle.guarantees.specs.SecondHalf.{accepted-is, none-parts}

-- what an accepted list has: data of the size of the symbol that bears the name
abbrev pub SizedBy : List Symbol → List ℕ → Type 0
SizedBy [] d = Unit {0}
SizedBy (y ∷ ys) d = length d ≡ y.size

abbrev pub Sized : Object → List Patch → Type 0
Sized o [] = Unit {0}
Sized o (p ∷ ps) = SizedBy (bearers o p.name) p.bytes × Sized o ps

sized_by : (ms : List Map) (e : ℕ) (p : Patch) (ys : List Symbol) → bearer_refusal ms e p ys ≡ None → SizedBy ys p.bytes
unfolding bearer_refusal
sized_by ms e p [] h = tt
sized_by ms e p (y ∷ []) h =
    eqb-true _ _ (not-false _ (refuse-none _ 21 no_section no_symbol e (or_else-none (of_entry 21 e (not (eqb (length p.bytes) y.size))) (place_refusal ms e y) h).0))
sized_by ms e p (y ∷ z ∷ ys) h = not_some _ h

pub sized : (o : Object) (ms : List Map) (e : ℕ) (ps : List Patch) → patch_refusal o ms e ps ≡ None → Sized o ps
unfolding patch_refusal entry_refusal
sized o ms e [] h = tt
sized o ms e (p ∷ ps) h =
    let (u, v) = or_else-none (entry_refusal o ms e p) (patch_refusal o ms (suc e) ps) h in
    let (x, w) = or_else-none (of_entry 18 e (not p.inside || ltb 1 p.mark)) (bearer_refusal ms e p (bearers o p.name)) u in
    (sized_by ms e p (bearers o p.name) w, sized o ms (suc e) ps v)

-- one entry, one byte
one_byte : (y : Symbol) (ys : List Symbol) (d own : List ℕ) (s : SectionIndex) (i : ℕ) → length d ≡ y.size → i < length own
    → get_or (cond (lies_in s y.section) (sets own y.address d) own) i 0 ≡ maybe (given_by (y ∷ ys) d s i) (get_or own i 0) (λ b. b)
unfolding given_by
one_byte y ys d own s i e h = at (lies_in s y.section) (leb y.address i) (ltb i (y.address + y.size)) refl refl
  where
    at : (a b c : Bool) → leb y.address i ≡ b → ltb i (y.address + y.size) ≡ c
        → get_or (cond a (sets own y.address d) own) i 0 ≡ maybe (cond (a && (b && c)) (Some (get_or d (i - y.address) 0)) None) (get_or own i 0) (λ b. b)
    at false b c p q = refl
    at true false c p q = sets-out 0 d own y.address i (inl (leb-false _ _ p))
    at true true false p q = let l : y.address + y.size ≤ i = ltb-false _ _ q in sets-out 0 d own y.address i (inr (omega arith))
    at true true true p q =
        let l : i < y.address + y.size = ltb-true _ _ q in sets-in 0 d own y.address i (leb-true _ _ p) (omega arith) h

-- the byte after an entry and the rest of the list
then-byte : (l g : Option ℕ) (a b : ℕ) → a ≡ maybe g b (λ x. x) → maybe l a (λ x. x) ≡ maybe (or_else l g) b (λ x. x)
then-byte None g a b e = e
then-byte (Some x) g a b e = refl

one-length : (b : Bool) (own d : List ℕ) (a : ℕ) → length (cond b (sets own a d) own) ≡ length own
one-length true own d a = length-sets own a d
one-length false own d a = refl

-- a map after an entry and the rest of the list
one_map : (o : Object) (p : Patch) (ps : List Patch) (y : Symbol) (ys : List Symbol) (m : Map) → bearers o p.name ≡ y ∷ ys → length p.bytes ≡ y.size
    → map_after o ps (patch_map y p.bytes m) ≡ map_after o (p ∷ ps) m
unfolding map_after patch_map last_given
one_map o p ps y ys m e z =
    let own = cond (lies_in m.section y.section) (sets m.own y.address p.bytes) m.own in
    let f : ℕ → ℕ = λ i. maybe (last_given o ps m.section i) (get_or own i 0) (λ b. b) in
    let g : ℕ → ℕ = λ i. maybe (or_else (last_given o ps m.section i) (given o p m.section i)) (get_or m.own i 0) (λ b. b) in
    let len : length own ≡ length m.own = one-length (lies_in m.section y.section) m.own p.bytes y.address in
    let same : tab f (length own) ≡ tab g (length m.own) =
    ap (tab f) len ∙ tab-ext f g (length m.own)
    (λ i l. then-byte (last_given o ps m.section i) (given o p m.section i) (get_or own i 0) (get_or m.own i 0) (rw e (one_byte y ys p.bytes m.own m.section i z l)))
    in
    λ k. record { name = m.name; section = m.section; kind = m.kind; symbol = m.symbol; def = m.def; own = same k }

-- a map whose list is empty is as it was
no-map : (o : Object) (m : Map) → map_after o [] m ≡ m
unfolding map_after last_given
no-map o m = λ k. record { name = m.name; section = m.section; kind = m.kind; symbol = m.symbol; def = m.def; own = sym (is-tab m.own (λ i. get_or m.own i 0) (length m.own) 0 refl (λ i l. refl)) k }

passed-map : (o : Object) (p : Patch) (ps : List Patch) (m : Map) → bearers o p.name ≡ [] → map_after o ps m ≡ map_after o (p ∷ ps) m
unfolding map_after last_given given_by
passed-map o p ps m e =
    let f : ℕ → ℕ = λ i. maybe (last_given o ps m.section i) (get_or m.own i 0) (λ b. b) in
    let g : ℕ → ℕ = λ i. maybe (or_else (last_given o ps m.section i) (given o p m.section i)) (get_or m.own i 0) (λ b. b) in
    let same : tab f (length m.own) ≡ tab g (length m.own) =
    tab-ext f g (length m.own) (λ i l. then-byte (last_given o ps m.section i) (given o p m.section i) (get_or m.own i 0) (get_or m.own i 0) (rw e))
    in
    λ k. record { name = m.name; section = m.section; kind = m.kind; symbol = m.symbol; def = m.def; own = same k }

step : (o : Object) (p : Patch) (ps : List Patch) (ys : List Symbol) (ms : List Map) → bearers o p.name ≡ ys → SizedBy ys p.bytes
    → map (map_after o ps) (patch_maps ys p.bytes ms) ≡ map (map_after o (p ∷ ps)) ms
unfolding patch_maps
step o p ps [] ms e z = map-ext (map_after o ps) (map_after o (p ∷ ps)) ms (λ m. passed-map o p ps m e)
step o p ps (y ∷ ys) ms e z =
    map-map (map_after o ps) (patch_map y p.bytes) ms
    ∙ map-ext (λ m. map_after o ps (patch_map y p.bytes m)) (map_after o (p ∷ ps)) ms (λ m. one_map o p ps y ys m e z)

-- 'A patch list starts from the maps the deposit has without patches; each entry gets them as the one before left them, and nothing else writes them.'
-- From any catalogue c, also one that a later call takes
pub patched-is : (o : Object) (ps : List Patch) (c : Catalogue) → Sized o ps → patched o ps c ≡ with_maps c (map (map_after o ps) c.maps)
unfolding patched with_maps
patched-is o [] c z = ap (with_maps c) (sym (map-fixed (map_after o []) c.maps (no-map o)))
patched-is o (p ∷ ps) c z =
    patched-is o ps (with_maps c (patch_maps (bearers o p.name) p.bytes c.maps)) z.1
    ∙ ap (with_maps c) (step o p ps (bearers o p.name) c.maps refl z.0)

off : (f : Function) → function_after false f ≡ f
unfolding function_after instruction_after
off f =
    λ k. record { section = f.section; address = f.address; offset = f.offset; name = f.name; code = map-fixed (instruction_after false) f.code (λ i. refl) k }

abbrev with_functions : Catalogue → List Function → List Map → Catalogue
with_functions c fs ms =
    record { order = c.order; licence = c.licence; version = c.version; sections = c.sections; programs = c.programs; functions = fs; maps = ms; relocations = c.relocations }

pub finish-is : (o : Object) (ps : List Patch) (on : Bool) (c : Catalogue) → Sized o ps → finish o ps on c ≡ after o ps on c
unfolding finish rewritten after with_maps function_after rewrite_function instruction_after rewrite
finish-is o ps false c z =
    patched-is o ps c z ∙ ap (λ fs. with_functions c fs (map (map_after o ps) c.maps)) (sym (map-fixed (function_after false) c.functions off))
finish-is o ps true c z = ap rewritten (patched-is o ps c z)

alone : (o : Object) → object_refusal o ≡ None → verdict (refusal_of o []) (finish o [] false (catalogue_of o)) ≡ accepted (catalogue_of o)
unfolding refusal_of patch_refusal finish patched
alone o e = rw e

-- A load that is accepted with patches ps and rewriting on or off is accepted without either, and its catalogue is the one without
-- either, but for the map bytes that an entry reaches and the immediates that document 01 states.
pub second-half : (o : Object) (ps : List Patch) (on : Bool) (c : Catalogue) → load o ps on ≡ accepted c
    → (load o [] false ≡ accepted (catalogue_of o)) × (c ≡ after o ps on (catalogue_of o))
unfolding load
second-half o ps on c h = go (refusal_of o ps) refl h
  where
    go : (r : Option Refusal) → refusal_of o ps ≡ r → verdict r (finish o ps on (catalogue_of o)) ≡ accepted c
        → (verdict (refusal_of o []) (finish o [] false (catalogue_of o)) ≡ accepted (catalogue_of o)) × (c ≡ after o ps on (catalogue_of o))
    go (Some r) e q = let z : ◌≡◌ {A = ℕ} 0 1 = cc in let no : ⊥ = omega arith in absurd no
    go None e q = let (u, v) = none-parts o ps e in (alone o u, accepted-is (sym q) ∙ finish-is o ps on (catalogue_of o) (sized o (catalogue_of o).maps 1 ps v))

-- ---- what `after` says

-- an entry that is passed over reaches nothing
pub passed_over : (o : Object) (p : Patch) (s : SectionIndex) (i : ℕ) → bearers o p.name ≡ [] → given o p s i ≡ None
unfolding given_by
passed_over o p s i e = rw e

pub none-reaches : (o : Object) (ps : List Patch) (s : SectionIndex) (i : ℕ) → ((p : Patch) → p ∈ ps → given o p s i ≡ None) → last_given o ps s i ≡ None
unfolding last_given
none-reaches o [] s i h = refl
none-reaches o (p ∷ ps) s i h = rw (none-reaches o ps s i (λ q m. h q (inr m)), h p (inl refl))

-- p reaches the byte, and no later entry does
pub last-reaches : (o : Object) (qs : List Patch) (p : Patch) (rs : List Patch) (s : SectionIndex) (i b : ℕ) → given o p s i ≡ Some b
    → ((r : Patch) → r ∈ rs → given o r s i ≡ None) → last_given o (qs ++ p ∷ rs) s i ≡ Some b
unfolding last_given
last-reaches o [] p rs s i b g n = rw (none-reaches o rs s i n, g)
last-reaches o (q ∷ qs) p rs s i b g n = rw (last-reaches o qs p rs s i b g n)

pub bytes_after : (o : Object) (ps : List Patch) (m : Map)
    → (length (map_after o ps m).own ≡ length m.own) × ((i : ℕ) → i < length m.own → get_or (map_after o ps m).own i 0 ≡ byte_after o ps m i)
unfolding map_after
bytes_after o ps m = (length-tab (byte_after o ps m) (length m.own), λ i h. get_or-tab (byte_after o ps m) (length m.own) i 0 h)

pub named-becomes : (i : BpfInsn) (z : ℤ) → NamedWith i z → (instruction_after true i).imm ≡ z
unfolding instruction_after stated_for stated
named-becomes i z (c, (r, inl (a, b))) = rw (c, r, a, b)
named-becomes i z (c, (r, inr (inl (a, b)))) = rw (c, r, a, b)
named-becomes i z (c, (r, inr (inr (inl (a, b))))) = rw (c, r, a, b)
named-becomes i z (c, (r, inr (inr (inr (a, b))))) = rw (c, r, a, b)

value_stays : (a : ℤ) → ((z : ℤ) → Becomes a z → ⊥) → stated a ≡ a
unfolding stated
value_stays (pos n) k = ap pos (go (eqb n 112) (eqb n 113) (eqb n 114) (eqb n 115) refl refl refl refl)
  where
    go : (p q r s : Bool) → eqb n 112 ≡ p → eqb n 113 ≡ q → eqb n 114 ≡ r → eqb n 115 ≡ s → cond p 4 (cond q 4 (cond r 45 (cond s 45 n))) ≡ n
    go true q r s a b c d = absurd (k (pos 4) (inl (ap pos (eqb-true n 112 a), refl)))
    go false true r s a b c d = absurd (k (pos 4) (inr (inl (ap pos (eqb-true n 113 b), refl))))
    go false false true s a b c d = absurd (k (pos 45) (inr (inr (inl (ap pos (eqb-true n 114 c), refl)))))
    go false false false true a b c d = absurd (k (pos 45) (inr (inr (inr (ap pos (eqb-true n 115 d), refl)))))
    go false false false false a b c d = refl
value_stays (negsuc n) k = refl

pub unnamed-stays : (i : BpfInsn) → ((z : ℤ) → NamedWith i z → ⊥) → (instruction_after true i).imm ≡ i.imm
unfolding instruction_after stated_for
unnamed-stays i h = go (eqb i.code 0x85) (eqb i.regs 0) refl refl
  where
    go : (p q : Bool) → eqb i.code 0x85 ≡ p → eqb i.regs 0 ≡ q → cond (p && q) (stated i.imm) i.imm ≡ i.imm
    go true true c r = value_stays i.imm (λ z k. h z (eqb-true _ _ c, (eqb-true _ _ r, k)))
    go true false c r = refl
    go false q c r = refl
