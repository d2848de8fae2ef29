-- The catalogue is read back from its image, whatever stands behind it: each row gives its entry again, and each piece of bytes stands where its row says.
use Rattle.std.specs.Prelude.{◌≡◌, Bool, true, false, cond, ltb, ℤ, pos, negsuc, get_or, replicate, None, Option, Some}
use Rattle.std.proofs.Math.Path.{refl, ap}
use Rattle.std.proofs.Common.{sym, ◌∙◌, inl, inr, zero-add, suc-mul, arith, ltb-true, ltb-false, length-append, take-take, drop-drop, take-add}
use mathlib.Core.List.{List, [], ◌∷◌, ◌++◌, map, append_assoc}
use Prim.Native.Nat.{ℕ, zero, suc, ◌+◌, ◌-◌, ◌*◌, ◌/◌, ◌%◌, ◌<◌, ◌≤◌}
use Rattle.std.proofs.Math.ListN.{length, take, drop}
use Rattle.std.proofs.Math.Seq.{take-append_seam, drop-append_seam, take_at, drop_at}
use Rattle.model.specs.Bytes.{each, little, little_bytes, part, records, ◌∈◌}
use Rattle.lists.specs.Tab.{tab, is-tab}
use Rattle.model.specs.declared.SymbolIndex.{SymbolIndex}
use Rattle.model.specs.declared.XdpAttachType.TheVariants.{Interface, CpuMap, DevMap}
use Rattle.model.specs.declared.SkSkbKind.TheVariants.{StreamParser, StreamVerdict}
use Rattle.model.specs.declared.CgroupSkbAttachType.TheVariants.{Ingress, Egress}
use Rattle.model.specs.declared.CgroupSockAddrAttachType.TheVariants.{
  Bind4,
  Bind6,
  Connect4,
  Connect6,
  GetPeerName4,
  GetPeerName6,
  GetSockName4,
  GetSockName6,
  UDPSendMsg4,
  UDPSendMsg6,
  UDPRecvMsg4,
  UDPRecvMsg6,
}
use Rattle.model.specs.declared.CgroupSockoptAttachType.TheVariants.{Get, Set}
use Rattle.model.specs.declared.SkReuseportAttachType.TheVariants.{Select, SelectOrMigrate}
use Rattle.model.specs.declared.CgroupSockAttachType.TheVariants.{PostBind4, PostBind6, SockCreate, SockRelease}
use Rattle.model.specs.declared.ProgramSection.{ProgramSection}
use Rattle.model.specs.declared.ProgramSection.TheVariants.{
  KRetProbe,
  KProbe,
  UProbe,
  URetProbe,
  TracePoint,
  SocketFilter,
  Xdp,
  SkMsg,
  SkSkbStream,
  SockOps,
  SchedClassifier,
  CgroupSkb,
  CgroupSockAddr,
  CgroupSysctl,
  CgroupSockopt,
  LircMode2,
  PerfEvent,
  RawTracePoint,
  Lsm,
  LsmCgroup,
  BtfTracePoint,
  FEntry,
  FExit,
  FlowDissector,
  Extension,
  SkLookup,
  SkReuseport,
  CgroupSock,
  CgroupDevice,
  Iter,
}
use Rattle.model.specs.declared.BpfInsn.{BpfInsn}
use Rattle.model.specs.declared.Function.{Function as FunctionRow}
use Rattle.model.specs.Instruction.{signed, unsigned, instruction_of, eight, instructions}
use Rattle.model.specs.Catalogue.{SectionEntry, Program, Function, Map, Relocation, Catalogue}
use Rattle.model.specs.ProgramNumbers.{variant_of}
use Rattle.model.specs.Lent.{symbol_number, nothing, section_name, program_name, function_name, function_code, map_name, map_own, placed, section_row, program_row, function_row, map_row, relocation_row, bytes_of, sections_at, programs_at, functions_at, code_start, maps_at, own_start, summary_of, Lent, joined, image_of, zero_row, filled_to}
use Rattle.model.specs.declared.Room.{Room}
use Rattle.model.specs.ReadBack.{program_from, symbol_read_back, section_read_back, program_read, function_read, map_read, relocation_read, read_back}
use Rattle.guarantees.specs.ReadBackImage.{Numbered, Ranged, Sound, Within, kind-back}

-- ---- a piece stands at a place of the bytes

abbrev pub Holds : List ℕ → ℕ → List ℕ → Type 0
Holds bytes a l = part bytes a (length l) ≡ l

holds-first : (bytes : List ℕ) (a : ℕ) (l r : List ℕ) → Holds bytes a (l ++ r) → Holds bytes a l
holds-first bytes a l r h =
    sym (take-take (length l) (length (l ++ r)) (drop a bytes) (rw length-append (omega arith))) ∙ ap (take (length l)) h ∙ take-append_seam l r

holds-second : (bytes : List ℕ) (a : ℕ) (l r : List ℕ) → Holds bytes a (l ++ r) → Holds bytes (a + length l) r
holds-second bytes a l r h =
    let s = drop a bytes in
    let f : take (length l) s ≡ l = holds-first bytes a l r h in
    let e : l ++ take (length r) (drop (length l) s) ≡ l ++ r =
    ap (λ x. x ++ take (length r) (drop (length l) s)) (sym f) ∙ sym (take-add (length l) (length r) s) ∙ ap (λ n. take n s) (sym (length-append l r)) ∙ h in
    ap (take (length r)) (sym (drop-drop (length l) a bytes))
    ∙ sym (drop-append_seam l (take (length r) (drop (length l) s)))
    ∙ ap (drop (length l)) e
    ∙ drop-append_seam l r

-- ---- rows and what they point to

module _ {A B : Type 0} (p q : A → List ℕ) (row : ℕ → ℕ → A → B) (bytes : List ℕ) (back : B → A) where
  placed-back : (a b : ℕ) (xs : List A) → Holds bytes a (each p xs) → Holds bytes b (each q xs)
      → ((x : A) (i j : ℕ) → x ∈ xs → Holds bytes i (p x) → Holds bytes j (q x) → back (row i j x) ≡ x)
      → map back (placed p q row a b xs) ≡ xs
  unfolding placed each
  placed-back a b [] h k f = refl
  placed-back a b (x ∷ xs) h k f =
      let e : back (row a b x) ≡ x = f x a b (inl refl) (holds-first bytes a (p x) (each p xs) h) (holds-first bytes b (q x) (each q xs) k) in
      let r : map back (placed p q row (a + length (p x)) (b + length (q x)) xs) ≡ xs =
      placed-back (a + length (p x)) (b + length (q x)) xs (holds-second bytes a (p x) (each p xs) h) (holds-second bytes b (q x) (each q xs) k) (λ y i j m. f y i j (inr m)) in
      λ t. e t ∷ r t

  placed-length : (a b : ℕ) (xs : List A) → length (placed p q row a b xs) ≡ length xs
  unfolding placed
  placed-length a b [] = refl
  placed-length a b (x ∷ xs) = ap suc (placed-length (a + length (p x)) (b + length (q x)) xs)

module _ {A : Type 0} (p q : A → List ℕ) (row : ℕ → ℕ → A → List ℕ) (back : List ℕ → A) (w : ℕ) (wide : (i j : ℕ) (x : A) → length (row i j x) ≡ w) where
  -- rows of numbers, one after the other, and something behind them
  numbers-back : (a b : ℕ) (xs : List A) (rest : List ℕ) → records back w (length xs) (joined (placed p q row a b xs) ++ rest) ≡ map back (placed p q row a b xs)
  unfolding placed each records
  numbers-back a b [] rest = refl
  numbers-back a b (x ∷ xs) rest =
      let l = joined (placed p q row (a + length (p x)) (b + length (q x)) xs) in
      let e : (row a b x ++ l) ++ rest ≡ row a b x ++ (l ++ rest) = append_assoc (row a b x) l rest in
      let t : take w (row a b x ++ (l ++ rest)) ≡ row a b x = take_at (row a b x) (l ++ rest) w (wide a b x) in
      let d : drop w (row a b x ++ (l ++ rest)) ≡ l ++ rest = drop_at (row a b x) (l ++ rest) w (wide a b x) in
      let r : records back w (length xs) (l ++ rest) ≡ map back (placed p q row (a + length (p x)) (b + length (q x)) xs) =
      numbers-back (a + length (p x)) (b + length (q x)) xs rest in
      rw (e, t, d) (λ k. back (row a b x) ∷ r k)

-- ---- enumerations

variant_back : (v : ProgramSection) → program_from (variant_of v).number (variant_of v).first (variant_of v).second ≡ v
unfolding variant_of program_from
variant_back KRetProbe = refl
variant_back KProbe = refl
variant_back (UProbe true true) = refl
variant_back (UProbe true false) = refl
variant_back (UProbe false true) = refl
variant_back (UProbe false false) = refl
variant_back (URetProbe true true) = refl
variant_back (URetProbe true false) = refl
variant_back (URetProbe false true) = refl
variant_back (URetProbe false false) = refl
variant_back TracePoint = refl
variant_back SocketFilter = refl
variant_back (Xdp true Interface) = refl
variant_back (Xdp true CpuMap) = refl
variant_back (Xdp true DevMap) = refl
variant_back (Xdp false Interface) = refl
variant_back (Xdp false CpuMap) = refl
variant_back (Xdp false DevMap) = refl
variant_back SkMsg = refl
variant_back (SkSkbStream StreamParser) = refl
variant_back (SkSkbStream StreamVerdict) = refl
variant_back SockOps = refl
variant_back SchedClassifier = refl
variant_back (CgroupSkb None) = refl
variant_back (CgroupSkb (Some Ingress)) = refl
variant_back (CgroupSkb (Some Egress)) = refl
variant_back (CgroupSockAddr Bind4) = refl
variant_back (CgroupSockAddr Bind6) = refl
variant_back (CgroupSockAddr Connect4) = refl
variant_back (CgroupSockAddr Connect6) = refl
variant_back (CgroupSockAddr GetPeerName4) = refl
variant_back (CgroupSockAddr GetPeerName6) = refl
variant_back (CgroupSockAddr GetSockName4) = refl
variant_back (CgroupSockAddr GetSockName6) = refl
variant_back (CgroupSockAddr UDPSendMsg4) = refl
variant_back (CgroupSockAddr UDPSendMsg6) = refl
variant_back (CgroupSockAddr UDPRecvMsg4) = refl
variant_back (CgroupSockAddr UDPRecvMsg6) = refl
variant_back CgroupSysctl = refl
variant_back (CgroupSockopt Get) = refl
variant_back (CgroupSockopt Set) = refl
variant_back LircMode2 = refl
variant_back PerfEvent = refl
variant_back RawTracePoint = refl
variant_back (Lsm true) = refl
variant_back (Lsm false) = refl
variant_back LsmCgroup = refl
variant_back BtfTracePoint = refl
variant_back (FEntry true) = refl
variant_back (FEntry false) = refl
variant_back (FExit true) = refl
variant_back (FExit false) = refl
variant_back FlowDissector = refl
variant_back Extension = refl
variant_back SkLookup = refl
variant_back (SkReuseport Select) = refl
variant_back (SkReuseport SelectOrMigrate) = refl
variant_back (CgroupSock PostBind4) = refl
variant_back (CgroupSock PostBind6) = refl
variant_back (CgroupSock SockCreate) = refl
variant_back (CgroupSock SockRelease) = refl
variant_back CgroupDevice = refl
variant_back (Iter true) = refl
variant_back (Iter false) = refl

symbol-back : (y : Option SymbolIndex) → Numbered y → symbol_read_back (symbol_number y) ≡ y
symbol-back None h = refl
symbol-back (Some y) h = go y.0 h
  where
    go : (n : ℕ) → 0 < n → symbol_read_back n ≡ Some (record { 0 = n })
    go zero h = let no : ⊥ = omega arith in absurd no
    go (suc n) h = refl

seven-back : (w : List ℕ) → length w ≡ 7
    → get_or w 0 0 ∷ get_or w 1 0 ∷ get_or w 2 0 ∷ get_or w 3 0 ∷ get_or w 4 0 ∷ get_or w 5 0 ∷ get_or w 6 0 ∷ [] ≡ w
unfolding tab
seven-back w e = sym (is-tab w (λ i. get_or w i 0) 7 0 e (λ i h. refl))

-- ---- instructions

unsigned-below : (half : ℕ) (z : ℤ) → Within half z → unsigned half z < half + half
unfolding unsigned
unsigned-below half (pos n) h = omega arith
unsigned-below half (negsuc n) h = omega arith

signed-again : (half : ℕ) (z : ℤ) → Within half z → signed half (unsigned half z) ≡ z
unfolding unsigned signed
signed-again half (pos n) h = go (ltb n half) refl
  where
    go : (b : Bool) → ltb n half ≡ b → cond b (pos n) (negsuc (half + half - suc n)) ≡ pos n
    go true e = refl
    go false e = let k : half ≤ n = ltb-false _ _ e in let no : ⊥ = omega arith in absurd no
signed-again half (negsuc n) h = go (ltb (half + half - suc n) half) refl
  where
    go : (b : Bool) → ltb (half + half - suc n) half ≡ b → cond b (pos (half + half - suc n)) (negsuc (half + half - suc (half + half - suc n))) ≡ negsuc n
    go true e = let k : half + half - suc n < half = ltb-true _ _ e in let no : ⊥ = omega arith in absurd no
    go false e = let k : half + half - suc (half + half - suc n) ≡ n = omega arith in ap negsuc k

two_back : (x : ℕ) → x < 65536 → x % 256 + 256 * (x / 256 % 256 + 256 * 0) ≡ x
two_back x h = omega arith

four-back : (x : ℕ) → x < 4294967296 → x % 256 + 256 * (x / 256 % 256 + 256 * (x / 256 / 256 % 256 + 256 * (x / 256 / 256 / 256 % 256 + 256 * 0))) ≡ x
four-back x h = omega arith

instruction-back : (i : BpfInsn) (rest : List ℕ) → Ranged i → instruction_of (take 8 (eight i ++ rest)) ≡ i
unfolding instruction_of eight little little_bytes
instruction-back i rest h =
    let a : signed 32768 (unsigned 32768 i.off) ≡ i.off = signed-again 32768 i.off h.off in
    let b : signed 2147483648 (unsigned 2147483648 i.imm) ≡ i.imm = signed-again 2147483648 i.imm h.imm in
    let u = two_back (unsigned 32768 i.off) (unsigned-below 32768 i.off h.off) in
    let v = four-back (unsigned 2147483648 i.imm) (unsigned-below 2147483648 i.imm h.imm) in
    let x = ap (signed 32768) u ∙ a in
    let y = ap (signed 2147483648) v ∙ b in
    λ k. record { code = i.code; regs = i.regs; off = x k; imm = y k }

eight-drop : (i : BpfInsn) (rest : List ℕ) → drop 8 (eight i ++ rest) ≡ rest
unfolding eight little_bytes
eight-drop i rest = refl

eight-length : (i : BpfInsn) → length (eight i) ≡ 8
unfolding eight little_bytes
eight-length i = refl

code-back : (is : List BpfInsn) → ((i : BpfInsn) → i ∈ is → Ranged i) → instructions (length is) (each eight is) ≡ is
unfolding instructions each
code-back [] h = refl
code-back (i ∷ is) h =
    let e = instruction-back i (each eight is) (h i (inl refl)) in
    let r : instructions (length is) (each eight is) ≡ is = code-back is (λ j m. h j (inr m)) in
    (λ k. e k ∷ instructions (length is) (eight-drop i (each eight is) k)) ∙ (λ k. i ∷ r k)

code-length : (is : List BpfInsn) → length (each eight is) ≡ length is * 8
unfolding each
code-length [] = refl
code-length (i ∷ is) =
    length-append (eight i) (each eight is) ∙ omega (arith, eight-length i, code-length is, suc-mul (length is) 8)

-- ---- each sort of row

section-wide : (i j : ℕ) (e : SectionEntry) → length (section_row i j e) ≡ 4
unfolding section_row
section-wide i j e = refl

section-back : (bytes : List ℕ) (e : SectionEntry) (i j : ℕ) → Holds bytes i e.name → section_read_back bytes (section_row i j e) ≡ e
unfolding section_row section_read_back
section-back bytes e i j h = λ k. record { name = h k; index = e.index; size = e.size }

program-wide : (i j : ℕ) (p : Program) → length (program_row i j p) ≡ 7
unfolding program_row
program-wide i j p = refl

program-back : (bytes : List ℕ) (p : Program) (i j : ℕ) → Holds bytes i p.name → program_read bytes (program_row i j p) ≡ p
unfolding program_row program_read
program-back bytes p i j h = λ k. record { name = h k; variant = variant_back p.variant k; section = p.section; address = p.address }

function-back : (bytes : List ℕ) (f : Function) (i j : ℕ) → ((x : BpfInsn) → x ∈ f.code → Ranged x) → Holds bytes i f.name → Holds bytes j (function_code f)
    → function_read bytes (function_row i j f) ≡ f
unfolding function_row function_read
function-back bytes f i j good h g =
    let n : length (function_code f) / 8 ≡ length f.code = omega (arith, code-length f.code) in
    let r : instructions (length (function_code f) / 8) (part bytes j (length (function_code f))) ≡ f.code =
    (λ k. instructions (n k) (g k)) ∙ code-back f.code good in
    λ k. record { section = f.section; address = f.address; offset = f.offset; name = h k; code = r k }

map-wide : (i j : ℕ) (m : Map) → length (map_row i j m) ≡ 27
unfolding map_row
map-wide i j m = refl

map_back : (bytes : List ℕ) (m : Map) (i j : ℕ) → Numbered m.symbol → length m.def.words ≡ 7 → Holds bytes i m.name → Holds bytes j m.own → map_read bytes (map_row i j m) ≡ m
unfolding map_row map_read
map_back bytes m i j n e h g =
    λ k.
    record {
      name = h k;
      section = m.section;
      kind = kind-back m.kind k;
      symbol = symbol-back m.symbol n k;
      def = record { words = seven-back m.def.words e k };
      own = g k;
    }

relocation-wide : (i j : ℕ) (r : Relocation) → length (relocation_row i j r) ≡ 4
unfolding relocation_row
relocation-wide i j r = refl

relocation-back : (r : Relocation) (i j : ℕ) → relocation_read (relocation_row i j r) ≡ r
unfolding relocation_row relocation_read
relocation-back r i j = refl

-- ---- where each group of pieces stands

pub record PiecesLaid (c : Catalogue) (bytes : List ℕ) : Type 0 where
  pub licence : take (length c.licence) bytes ≡ c.licence
  pub sections : Holds bytes (sections_at c) (each section_name c.sections)
  pub programs : Holds bytes (programs_at c) (each program_name c.programs)
  pub functions : Holds bytes (functions_at c) (each function_name c.functions)
  pub code : Holds bytes (code_start c) (each function_code c.functions)
  pub maps : Holds bytes (maps_at c) (each map_name c.maps)
  pub own : Holds bytes (own_start c) (each map_own c.maps)

laid : (c : Catalogue) (bytes : List ℕ) → Holds bytes 0 (bytes_of c) → PiecesLaid c bytes
unfolding bytes_of sections_at programs_at functions_at code_start maps_at own_start
laid c bytes h =
    let l = c.licence in
    let s = each section_name c.sections in
    let p = each program_name c.programs in
    let f = each function_name c.functions in
    let k = each function_code c.functions in
    let m = each map_name c.maps in
    let o = each map_own c.maps in
    let a = length l in
    let b = a + length s in
    let d = b + length p in
    let e = d + length f in
    let g = e + length k in
    let z : 0 + length l ≡ a = zero-add (length l) in
    let h₁ : Holds bytes a (s ++ (p ++ (f ++ (k ++ (m ++ o))))) = rw z at (holds-second bytes 0 l (s ++ (p ++ (f ++ (k ++ (m ++ o))))) h) in
    let h₂ : Holds bytes b (p ++ (f ++ (k ++ (m ++ o)))) = holds-second bytes a s (p ++ (f ++ (k ++ (m ++ o)))) h₁ in
    let h₃ : Holds bytes d (f ++ (k ++ (m ++ o))) = holds-second bytes b p (f ++ (k ++ (m ++ o))) h₂ in
    let h₄ : Holds bytes e (k ++ (m ++ o)) = holds-second bytes d f (k ++ (m ++ o)) h₃ in
    let h₅ : Holds bytes g (m ++ o) = holds-second bytes e k (m ++ o) h₄ in
    record {
      licence = holds-first bytes 0 l (s ++ (p ++ (f ++ (k ++ (m ++ o))))) h;
      sections = holds-first bytes a s (p ++ (f ++ (k ++ (m ++ o)))) h₁;
      programs = holds-first bytes b p (f ++ (k ++ (m ++ o))) h₂;
      functions = holds-first bytes d f (k ++ (m ++ o)) h₃;
      code = holds-first bytes e k (m ++ o) h₄;
      maps = holds-first bytes g m o h₅;
      own = holds-second bytes g m o h₅;
    }

none-held : {A : Type 0} (bytes : List ℕ) (a : ℕ) (xs : List A) → Holds bytes a (each nothing xs)
unfolding each
none-held bytes a [] = refl
none-held bytes a (x ∷ xs) = none-held bytes a xs

-- what may stand behind the image
pub record Behind : Type 0 where
  pub sections : List ℕ
  pub programs : List ℕ
  pub functions : List FunctionRow
  pub maps : List ℕ
  pub relocations : List ℕ
  pub bytes : List ℕ

abbrev pub followed : Lent → Behind → Lent
followed i z =
    record {
      sections = i.sections ++ z.sections;
      programs = i.programs ++ z.programs;
      functions = i.functions ++ z.functions;
      maps = i.maps ++ z.maps;
      relocations = i.relocations ++ z.relocations;
      bytes = i.bytes ++ z.bytes;
    }

pub read_back_lem : (c : Catalogue) (z : Behind) → Sound c → read_back (summary_of c) (followed (image_of c) z) ≡ c
unfolding read_back summary_of image_of
read_back_lem c z good =
    let bytes = bytes_of c ++ z.bytes in
    let at : PiecesLaid c bytes = laid c bytes (take-append_seam (bytes_of c) z.bytes) in
    let ss =
    numbers-back section_name nothing section_row (section_read_back bytes) 4 section-wide (sections_at c) 0 c.sections z.sections
    ∙ placed-back section_name nothing section_row bytes (section_read_back bytes) (sections_at c) 0 c.sections at.sections (none-held bytes 0 c.sections) (λ x i j m h g. section-back bytes x i j h) in
    let ps =
    numbers-back program_name nothing program_row (program_read bytes) 7 program-wide (programs_at c) 0 c.programs z.programs
    ∙ placed-back program_name nothing program_row bytes (program_read bytes) (programs_at c) 0 c.programs at.programs (none-held bytes 0 c.programs) (λ x i j m h g. program-back bytes x i j h) in
    let n : length (placed function_name function_code function_row (functions_at c) (code_start c) c.functions) ≡ length c.functions =
    placed-length function_name function_code function_row bytes (function_read bytes) (functions_at c) (code_start c) c.functions in
    let t : take (length c.functions) (placed function_name function_code function_row (functions_at c) (code_start c) c.functions ++ z.functions)
    ≡ placed function_name function_code function_row (functions_at c) (code_start c) c.functions =
    take_at (placed function_name function_code function_row (functions_at c) (code_start c) c.functions) z.functions (length c.functions) n in
    let fs =
    ap (map (function_read bytes)) t
    ∙ placed-back function_name function_code function_row bytes (function_read bytes) (functions_at c) (code_start c) c.functions at.functions at.code (λ x i j m h g. function-back bytes x i j (good.code x m) h g) in
    let ms =
    numbers-back map_name map_own map_row (map_read bytes) 27 map-wide (maps_at c) (own_start c) c.maps z.maps
    ∙ placed-back map_name map_own map_row bytes (map_read bytes) (maps_at c) (own_start c) c.maps at.maps at.own (λ x i j m h g. map_back bytes x i j (good.symbols x m) (good.words x m) h g) in
    let rs =
    numbers-back nothing nothing relocation_row relocation_read 4 relocation-wide 0 0 c.relocations z.relocations
    ∙ placed-back nothing nothing relocation_row bytes relocation_read 0 0 c.relocations (none-held bytes 0 c.relocations) (none-held bytes 0 c.relocations) (λ x i j m h g. relocation-back x i j) in
    λ k.
    record {
      order = c.order;
      licence = at.licence k;
      version = c.version;
      sections = ss k;
      programs = ps k;
      functions = fs k;
      maps = ms k;
      relocations = rs k;
    }

-- what a lent table holds behind the image is zeros
abbrev pub zeros_behind : Room → Lent → Behind
zeros_behind r i =
    record {
      sections = replicate (r.sections - length i.sections) 0;
      programs = replicate (r.programs - length i.programs) 0;
      functions = replicate (r.functions - length i.functions) zero_row;
      maps = replicate (r.maps - length i.maps) 0;
      relocations = replicate (r.relocations - length i.relocations) 0;
      bytes = replicate (r.bytes - length i.bytes) 0;
    }

pub read-back-filled : (c : Catalogue) (room : Room) → Sound c → read_back (summary_of c) (filled_to room (image_of c)) ≡ c
unfolding filled_to
read-back-filled c room good = read_back_lem c (zeros_behind room (image_of c)) good
