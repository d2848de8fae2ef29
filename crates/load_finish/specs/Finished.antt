-- The bytes of a catalogue as parts: patching replaces the maps' own, rewriting the code.
use Rattle.std.specs.Prelude.{◌≡◌, Bool, true, false, ℕ, ◌+◌, ◌-◌, ◌<◌, ◌≤◌, take, drop, replicate, None}
use Rattle.std.proofs.Math.Path.{refl, sym, ap}
use Rattle.std.proofs.Common.{◌∙◌, arith, take_at, drop_at}
use mathlib.Core.List.{List, [], ◌++◌, map, append_assoc}
use Rattle.std.proofs.Math.ListN.{length, length-append}
use Rattle.std.proofs.Math.Seq.{take-length}
use Rattle.std.proofs.lemmas.List.{length-replicate}
use Rattle.object_view.specs.declared.View.{View}
use Rattle.model.specs.Bytes.{each, records}
use Rattle.model.specs.PatchList.{patches_of}
use Rattle.model.specs.Refusals.{object_refusal}
use Rattle.stream.specs.Stream.{byte_at}
use Rattle.object.specs.View.{object_in}
use Rattle.records.specs.Readable.{Readable}
use Rattle.records.specs.View.{gap_of}
use Rattle.bytes_layout.specs.declared.Places.{Places}
use Rattle.catalogue_numbers.specs.Numbers.{function_numbers}
use Rattle.bytes_layout.specs.Held.{At, parts-inside, all-functions-fit}
use Rattle.bytes_layout.specs.Parts.{catalogue}
use Rattle.load_image.specs.Tables.{functions-are}
use Rattle.model.specs.Catalogue.{Function, Catalogue}
use Rattle.model.specs.Lent.{filled, section_name, program_name, function_name, function_code, map_name, map_own, bytes_of, sections_at, programs_at, functions_at, code_start, maps_at, own_start}
use Rattle.model.specs.Object.{Object, Patch}
use Rattle.model.specs.Patching.{patched, rewrite_function, rewritten, finish, with_maps}
use Rattle.insn.specs.Sanitized.{sanitized, sanitized-off}
use Rattle.bytes_code.specs.Rewritten.{AllEncoded, rewritten-code, all-encoded}
use Rattle.finish_laws.specs.Alike.{alike-finish, bytes-long}
use Rattle.patch_data.specs.Patched.{maps-patched}

-- ---- a part of a list that is lent, and comes back as x

module _ (a b c x : List ℕ) (p q : ℕ) (e : p ≡ length a) (f : q ≡ p + length b) where
  behind : drop p (a ++ (b ++ c)) ≡ b ++ c
  behind = drop_at a (b ++ c) p (sym e)

  long : q - p ≡ length b
  long = omega arith

  part-replaced : take p (a ++ (b ++ c)) ++ (x ++ drop (q - p) (drop p (a ++ (b ++ c)))) ≡ a ++ (x ++ c)
  part-replaced = rw (behind, take_at a (b ++ c) p (sym e), long, drop_at b c (length b) refl)

  the-part : take (q - p) (drop p (a ++ (b ++ c))) ≡ b
  the-part = rw (behind, long) (take_at b c (length b) refl)

-- ---- the parts of a catalogue's bytes

module _ (c : Catalogue) where
  unfoldable front : List ℕ
  front = c.licence ++ (each section_name c.sections ++ (each program_name c.programs ++ each function_name c.functions))

  abbrev code : List ℕ
  code = each function_code c.functions

  abbrev names : List ℕ
  names = each map_name c.maps

  bytes-split : bytes_of c ≡ front ++ (code ++ (names ++ each map_own c.maps))
  unfolding bytes_of front
  bytes-split = sym (rw (append_assoc, append_assoc, append_assoc))

  front_length : length front ≡ code_start c
  unfolding front code_start functions_at programs_at sections_at
  front_length = rw (length-append, length-append, length-append) (omega arith)

  code-end : maps_at c ≡ code_start c + length code
  unfolding maps_at
  code-end = refl

  own-start : own_start c ≡ length (front ++ (code ++ names))
  unfolding own_start maps_at
  own-start = sym (length-append front (code ++ names) ∙ (λ i. front_length i + length-append code names i) ∙ omega arith)

  own-end : length (bytes_of c) ≡ own_start c + length (each map_own c.maps)
  own-end =
      let own = each map_own c.maps in
      ap length bytes-split ∙ ap length (sym (append_assoc front (code ++ names) own ∙ ap (λ (l : List ℕ). front ++ l) (append_assoc code names own)))
      ∙ length-append (front ++ (code ++ names)) own ∙ ap (λ (n : ℕ). n + length own) (sym own-start)

maps-finished : (o : Object) (ps : List Patch) (on : Bool) (c : Catalogue) → (finish o ps on c).maps ≡ (patched o ps c).maps
unfolding finish rewritten
maps-finished o ps true c = refl
maps-finished o ps false c = refl

functions-patched : (o : Object) (ps : List Patch) (c : Catalogue) → (patched o ps c).functions ≡ c.functions
unfolding with_maps
functions-patched o ps c = ap (λ (e : Catalogue). e.functions) (maps-patched o ps c)

-- the code of all functions, one after the other
code-finished : (o : Object) (ps : List Patch) (on : Bool) (c : Catalogue) → AllEncoded c.functions → sanitized on (code c) ≡ each function_code (finish o ps on c).functions
unfolding finish rewritten
code-finished o ps true c h = rewritten-code c.functions h ∙ ap (λ (fs : List Function). each function_code (map rewrite_function fs)) (sym (functions-patched o ps c))
code-finished o ps false c h = sanitized-off (code c) ∙ ap (each function_code) (sym (functions-patched o ps c))

long-done : (o : Object) (ps : List Patch) (on : Bool) (c : Catalogue) → length (bytes_of (finish o ps on c)) ≡ length (bytes_of c)
long-done o ps on c = bytes-long c (finish o ps on c) (alike-finish o ps on c)

module _ (o : Object) (ps : List Patch) (on : Bool) (c : Catalogue) where
  abbrev done : Catalogue
  done = finish o ps on c

  abbrev own-done : List ℕ
  own-done = each map_own (patched o ps c).maps

  front-done : front done ≡ front c
  unfolding front
  front-done =
      let a = alike-finish o ps on c in
      λ i. a.licence i ++ (each section_name (a.sections i) ++ (each program_name (a.programs i) ++ a.function-names i))

  bytes-done : bytes_of done ≡ front c ++ (each function_code done.functions ++ (names c ++ own-done))
  bytes-done =
      let a = alike-finish o ps on c in
      bytes-split done
      ∙ (λ i. front-done i ++ (each function_code done.functions ++ (a.map-names i ++ each map_own (maps-finished o ps on c i))))

-- ---- the bytes as they are lent, with zeros behind

-- the parts that are lent lie inside
pub record InOrder (q : Places) (t : List ℕ) : Type 0 where
  pub own : q.own ≤ q.end
  pub code : q.code ≤ q.maps
  pub maps : q.maps ≤ q.end
  pub end : q.end ≤ length t

module _ {c : Catalogue} {q : Places} (at : At c q) {t : List ℕ} (lent : t ≡ filled 0 (length t) (bytes_of c)) where
  pub in-order : InOrder q t
  in-order =
      let long : length t ≡ length (bytes_of c) + (length t - length (bytes_of c)) = ap length lent ∙ rw (length-append, length-replicate) in
      let i = parts-inside c in
      let e = code-end c in
      record { own = omega arith; code = omega arith; maps = omega arith; end = omega arith }

  abbrev rest : List ℕ
  rest = replicate (length t - length (bytes_of c)) 0

  abbrev before-own : List ℕ
  before-own = front c ++ (code c ++ names c)

  first : t ≡ before-own ++ (each map_own c.maps ++ rest)
  first = lent ∙ ap (λ (l : List ℕ). l ++ rest) (bytes-split c) ∙ simp append_assoc

  reach-own : q.own ≡ length before-own
  reach-own = at.own ∙ own-start c

  reach-end : q.end ≡ q.own + length (each map_own c.maps)
  reach-end = at.end ∙ own-end c ∙ ap (λ (n : ℕ). n + length (each map_own c.maps)) (sym at.own)

  reach-code : q.code ≡ length (front c)
  reach-code = at.code ∙ sym (front_length c)

  reach-names : q.maps ≡ q.code + length (code c)
  reach-names = at.maps ∙ code-end c ∙ ap (λ (n : ℕ). n + length (code c)) (sym at.code)

  pub own-there : take (q.end - q.own) (drop q.own t) ≡ each map_own c.maps
  own-there = rw (← first) at (the-part before-own (each map_own c.maps) rest [] q.own q.end reach-own reach-end)

  -- the maps' own are patched, then the code is rewritten
  module _ (o : Object) (ps : List Patch) (on : Bool) {y : List ℕ} (patch : y ≡ each map_own (patched o ps c).maps) where
    abbrev then : List ℕ
    then = take q.own t ++ (y ++ drop (q.end - q.own) (drop q.own t))

    abbrev tail : List ℕ
    tail = names c ++ (own-done o ps on c ++ rest)

    second : then ≡ front c ++ (code c ++ tail)
    second =
        (λ i. take q.own (first i) ++ (patch i ++ drop (q.end - q.own) (drop q.own (first i))))
        ∙ part-replaced before-own (each map_own c.maps) rest (own-done o ps on c) q.own q.end reach-own reach-end
        ∙ simp append_assoc

    pub all_finished : AllEncoded c.functions → {z : List ℕ} → z ≡ sanitized on (take (q.maps - q.code) (drop q.code then))
        → take q.code then ++ (z ++ drop (q.maps - q.code) (drop q.code then)) ≡ filled 0 (length t) (bytes_of (finish o ps on c))
    all_finished enc {z} f =
        let code-done : z ≡ each function_code (finish o ps on c).functions =
        f ∙ ap (λ (l : List ℕ). sanitized on (take (q.maps - q.code) (drop q.code l))) second
        ∙ ap (sanitized on) (the-part (front c) (code c) tail [] q.code q.maps reach-code reach-names) ∙ code-finished o ps on c enc
        in
        (λ i. take q.code (second i) ++ (code-done i ++ drop (q.maps - q.code) (drop q.code (second i))))
        ∙ part-replaced (front c) (code c) tail (each function_code (finish o ps on c).functions) q.code q.maps reach-code reach-names
        ∙ sym (ap (λ (l : List ℕ). l ++ replicate (length t - length (bytes_of (finish o ps on c))) 0) (bytes-done o ps on c) ∙ simp (append_assoc, long-done o ps on c))

-- ---- an empty list changes nothing

pub untouched : (o : Object) (c : Catalogue) (entries lent : List ℕ) → length entries ≡ 0 → each map_own c.maps ≡ each map_own (patched o (patches_of entries lent) c).maps
unfolding patched patches_of records
untouched o c entries lent e = rw e

-- ---- what the numbers in hand say

pub functions-encoded : {d t : List ℕ} {v : View} (r : Readable d t v) (ok : object_refusal (object_in d t v) ≡ None)
    → ((k : ℕ) → byte_at d (gap_of v) k < 256) → AllEncoded (catalogue d t v).functions
functions-encoded {d} {t} {v} r ok small =
    let f : List ℕ = function_numbers d t v in
    rw (← functions-are r {f = f} refl) (rw (take-length f) at (all-encoded d t v small f (length f) (all-functions-fit r ok {f = f} refl)))
