-- What a load leaves of an object, by what was decided.
use Rattle.std.specs.Prelude.{◌≡◌, Bool, true, List, ◌++◌, map, ℕ, ◌+◌, ◌*◌, ◌^◌, ◌<◌, ◌≤◌, min, take, drop, replicate, Err, None, Ok, Option, Result, Some}
use Rattle.std.proofs.Math.Path.{refl, ap}
use Rattle.std.proofs.Common.{sym, ◌∙◌, arith, length-take, take-take, drop_at}
use Rattle.std.proofs.Math.ListN.{length}
use Rattle.std.proofs.Math.Seq.{take-length}
use Rattle.std.specs.Result.{is_err}
use Rattle.object_view.specs.declared.View.{View}
use Rattle.model.specs.declared.Extent.{Extent}
use Rattle.model.specs.declared.Function.{Function}
use Rattle.model.specs.declared.Refusal.{Refusal}
use Rattle.model.specs.declared.Room.{Room}
use Rattle.model.specs.declared.Summary.{Summary}
use Rattle.model.specs.Bytes.{each}
use Rattle.model.specs.Catalogue.{Catalogue}
use Rattle.model.specs.Lent.{placed, joined, filled, zero_row, bytes_of, map_name, map_own, map_row, function_name, function_code, function_row, image_of, maps_at, own_start, Outcome, zeroed, filled_to, refused_outcome, lent, outcome, outcome_in}
use Rattle.model.specs.Object.{Patch}
use Rattle.model.specs.Patching.{finish, load}
use Rattle.model.specs.Refusals.{object_refusal, patch_refusal}
use Rattle.object.specs.View.{object_in}
use Rattle.records.specs.declared.opened.Records.{Records}
use Rattle.records.specs.Of.{of}
use Rattle.records.specs.Readable.{Readable}
use Rattle.catalogue_numbers.specs.Numbers.{function_by_number, section_numbers, program_numbers, function_numbers, map_numbers}
use Rattle.bytes_layout.specs.declared.accepted.Accepted.{Accepted}
use Rattle.bytes_layout.specs.Held.{Held, parts-inside}
use Rattle.bytes_layout.specs.Parts.{catalogue}
use Rattle.load_image.specs.Tables.{long-relocations, count-functions, functions-are, rows-of-maps}
use Rattle.parse_sections.specs.declared.Counts.{Counts}
use Rattle.parse_tables.specs.Parsed
use Rattle.parse_tables.specs.Parsed.{tables_of, counts_of}
use Rattle.load_decision.specs.declared.Plan.{Plan}
use Rattle.load_decision.specs.Decided.{Planned}
use Rattle.load_decision.specs.Outcomes.{goes}
use Rattle.load_decision.specs.Patches.{ReadyToPatch}
use Rattle.load_decision.specs.Room.{spacious}
use Rattle.load_fill.specs.Fills.{Fillable, summary_by, counts_in, summary-is}
use Rattle.patch_checks.specs.Checks.{maps_of_numbers}
use Rattle.patch_data.specs.Ready.{Ready as PatchReady, sited-table, rows-front}
use Rattle.rows_functions.specs.declared.Rows.{Rows}
use Rattle.rows_functions.specs.Rows.{rows_made}
use Rattle.rows_functions.specs.Placed.{rows_are}
use Rattle.load_object.specs.declared.Loaded.{Loaded}
use Rattle.load_object.specs.Done.{Done}

-- the arrays that a load works in are long enough, and none is longer than the largest that there are
pub record Scratch (v : View) (s p f m a b : List ℕ) : Type 0 where
  pub sections : v.sections ≤ length s
  pub programs : v.symbols ≤ length p
  pub functions : v.symbols ≤ length f
  pub maps : v.sections + v.symbols ≤ length m
  pub first : v.sections + v.symbols ≤ length a
  pub first-relocations : v.relocations ≤ length a
  pub second-sections : v.sections ≤ length b
  pub second-symbols : v.symbols ≤ length b
  pub second-relocations : v.relocations ≤ length b
  pub most-sections : length s ≤ 69632
  pub most-programs : length p ≤ 69632
  pub most-functions : length f ≤ 65536
  pub most-maps : length m ≤ 69632

-- the arrays, by their lengths
pub scratch-of : (v : View) (s p f m a b : List ℕ) (i j k g h : ℕ) → length s ≡ i → length p ≡ j → length m ≡ k → length a ≡ g → length b ≡ h → length f ≡ v.symbols → v.symbols ≤ 65536
    → (v.sections ≤ i) × (v.symbols ≤ j) × (v.sections + v.symbols ≤ k) × (v.sections + v.symbols ≤ g) × (v.relocations ≤ g) × (v.sections ≤ h) × (v.symbols ≤ h) × (v.relocations ≤ h)
    × (i ≤ 69632) × (j ≤ 69632) × (k ≤ 69632) → Scratch v s p f m a b
scratch-of v s p f m a b i j k g h ls lp lm la lb lf few w =
    record {
      sections = rw ls w.0;
      programs = rw lp w.1;
      functions = omega arith;
      maps = rw lm w.2;
      first = rw la w.3;
      first-relocations = rw la w.4;
      second-sections = rw lb w.5;
      second-symbols = rw lb w.6;
      second-relocations = rw lb w.7;
      most-sections = rw ls w.8;
      most-programs = rw lp w.9;
      most-functions = omega arith;
      most-maps = rw lm w.10;
    }

-- what refuses the load is told, or it is done
abbrev pub Tried : Records → Room → List Patch → Bool → Result Loaded Refusal → List ℕ → List ℕ → List ℕ → List ℕ → List ℕ → List ℕ → Type 0
Tried r room ps on (Err q) s p m l b order = outcome_in room (load (of object_in r) ps on) ≡ refused_outcome room q
Tried r room ps on (Ok x) s p m l b order = Done r room.functions (outcome_in room (load (of object_in r) ps on)) (Ok x) s p m l b order

-- an outcome by its parts
outcome-parts : (o : Outcome) (r : Result Summary Refusal) (s p : List ℕ) (f : List Function) (m l b : List ℕ) → r ≡ o.reply → s ≡ o.lent.sections → p ≡ o.lent.programs
    → f ≡ o.lent.functions → m ≡ o.lent.maps → l ≡ o.lent.relocations → b ≡ o.lent.bytes → outcome r (lent s p f m l b) ≡ o
outcome-parts o r s p f m l b e₁ e₂ e₃ e₄ e₅ e₆ e₇ =
    λ i. record { reply = e₁ i; lent = record { sections = e₂ i; programs = e₃ i; functions = e₄ i; maps = e₅ i; relocations = e₆ i; bytes = e₇ i } }

module _ (r : Records) (room : Room) (ps : List Patch) (on : Bool) (s p m l b order : List ℕ) where
  -- a refusal is done once all is cleared
  pub refused-done : (x : Result Loaded Refusal) (s₀ p₀ m₀ l₀ b₀ : List ℕ) → is_err x ≡ true → Tried r room ps on x s₀ p₀ m₀ l₀ b₀ order
      → s ≡ replicate room.sections 0 → p ≡ replicate room.programs 0 → m ≡ replicate room.maps 0 → l ≡ replicate room.relocations 0 → b ≡ replicate room.bytes 0
      → Done r room.functions (outcome_in room (load (of object_in r) ps on)) x s p m l b order
  unfolding zeroed
  refused-done (Ok x) s₀ p₀ m₀ l₀ b₀ z e k₁ k₂ k₃ k₄ k₅ = absurd (cc)
  refused-done (Err q) s₀ p₀ m₀ l₀ b₀ z e k₁ k₂ k₃ k₄ k₅ = (outcome-parts (refused_outcome room q) (Err q) s p _ m l b refl k₁ k₂ refl k₃ k₄ k₅ ∙ sym e, tt)

  -- the functions stand in front of a longer list
  pub tried-front : (n : ℕ) (x : Result Loaded Refusal) → Tried r room ps on x s p m l b (take n order) → Tried r room ps on x s p m l b order
  tried-front n (Err q) e = e
  tried-front n (Ok x) e =
      let k : x.summary.functions ≤ length (take n order) = e.1 in
      let w : x.summary.functions ≤ length order = omega (arith, length-take n order) in
      let q : take x.summary.functions (take n order) ≡ take x.summary.functions order = take-take x.summary.functions n order (omega (arith, length-take n order)) in
      (rw q at e.0, w)

-- ---- the tables as they were made

front-in : (ns l : List ℕ) → take (length ns) l ≡ ns → length ns ≤ length l
front-in ns l e = let q : min (length ns) (length l) ≡ length ns = sym (length-take (length ns) l) ∙ ap length e in omega arith

-- the numbers stand in front of the arrays
pub record InFront (d t : List ℕ) (v : View) (n : Counts) (s p f m : List ℕ) : Type 0 where
  pub ok : object_refusal (object_in d t v) ≡ None
  pub sections : n.sections ≤ length s
  pub programs : n.programs ≤ length p
  pub functions : n.functions ≤ length f
  pub maps : n.maps ≤ length m
  pub held : length s ≤ 69632 → length p ≤ 69632 → length f ≤ 65536 → length m ≤ 69632
      → Held d t v (take n.sections s) (take n.programs p) (take n.functions f) (take n.maps m) n.license n.version

module _ {d t : List ℕ} {v : View} {s p f m : List ℕ} where
  pub numbers-refused : (q : Refusal) → Parsed.Parsed d t v (Err q) s p f m → object_refusal (object_in d t v) ≡ Some q
  numbers-refused q made = go (object_refusal (object_in d t v)) made.answer
    where
      go : (o : Option Refusal) → Err q ≡ tables_of o (counts_of d t v) → o ≡ Some q
      go None e = cc
      go (Some x) e = cc

  numbers-fine : (n : Counts) → Parsed.Parsed d t v (Ok n) s p f m → (object_refusal (object_in d t v) ≡ None) × (n ≡ counts_of d t v)
  numbers-fine n made = go (object_refusal (object_in d t v)) made.answer
    where
      go : (o : Option Refusal) → Ok n ≡ tables_of o (counts_of d t v) → (o ≡ None) × (n ≡ counts_of d t v)
      go None e = (refl, cc)
      go (Some x) e = cc

  pub numbers-held : (n : Counts) → Parsed.Parsed d t v (Ok n) s p f m → InFront d t v n s p f m
  numbers-held n made =
      let k = numbers-fine n made in
      let h = made.numbers k.0 in
      let e₁ : length (section_numbers d t v) ≤ length s = front-in _ s h.of-sections in
      let e₂ : length (program_numbers d t v) ≤ length p = front-in _ p h.of-programs in
      let e₃ : length (function_numbers d t v) ≤ length f = front-in _ f h.of-functions in
      let e₄ : length (map_numbers d t v) ≤ length m = front-in _ m h.of-maps in
      rw k.1 (record {
        ok = k.0;
        sections = e₁;
        programs = e₂;
        functions = e₃;
        maps = e₄;
        held = λ a b c g.
            record {
              sections = h.of-sections;
              programs = h.of-programs;
              functions = h.of-functions;
              maps = h.of-maps;
              few-sections = rw h.of-sections (omega arith);
              few-programs = rw h.of-programs (omega arith);
              few-functions = rw h.of-functions (omega arith);
              few-maps = rw h.of-maps (omega arith);
              license = refl;
              version = refl;
            };
      })

-- ---- an accepted object

-- what filling needs
pub fillable : {d t : List ℕ} {v : View} (room : Room) (plan : Plan) → Planned d t v room plan → (sections programs maps relocations bytes out₀ : List ℕ) → room.sections ≡ length sections
    → room.programs ≡ length programs → room.maps ≡ length maps → room.relocations ≡ length relocations → room.bytes ≡ length bytes
    → relocations ≡ (image_of (catalogue d t v)).relocations ++ drop (plan.relocations * 4) out₀ → Fillable d t v plan sections programs maps relocations bytes
fillable {d} {t} {v} room plan g sections programs maps relocations bytes out₀ z₁ z₂ z₃ z₄ z₅ laid =
    let c = catalogue d t v in
    let w = spacious c room g.fit in
    let l : length (image_of c).relocations ≡ plan.relocations * 4 = long-relocations c ∙ ap (λ (k : ℕ). k * 4) (sym g.count) in
    record {
      at = g.at;
      count = g.count;
      room-sections = rw z₁ at w.sections;
      room-programs = rw z₂ at w.programs;
      room-maps = rw z₃ at w.maps;
      room-relocations = rw (← z₄, g.count) w.relocations;
      room-bytes = rw z₅ at w.bytes;
      stored = laid ∙ ap (λ (x : List ℕ). (image_of c).relocations ++ x) (sym (ap (drop (plan.relocations * 4)) laid ∙ drop_at (image_of c).relocations (drop (plan.relocations * 4) out₀) (plan.relocations * 4) l));
    }

-- for patching: symbols by name, maps by section, and their rows
pub patch-ready : {d t : List ℕ} {v : View} (r : Readable d t v) (ok : object_refusal (object_in d t v) ≡ None) {m : List ℕ} → m ≡ map_numbers d t v
    → (entries order by rows : List ℕ) (own : ℕ) → own ≡ own_start (catalogue d t v) → rows ≡ filled 0 (length rows) (image_of (catalogue d t v)).maps
    → ReadyToPatch d t v entries m order by → 0 < length entries → PatchReady d t v entries order by rows own
patch-ready {d} {t} {v} r ok {m} is entries order by rows own e g k h =
    let c = catalogue d t v in
    let q : (image_of c).maps ≡ joined (placed map_name map_own map_row (maps_at c) own (maps_of_numbers d t v m)) = sym (rows-of-maps r is (maps_at c) own refl e) in
    record {
      sited = sited-table d t v m is by (k.sited h);
      named = k.named h;
      placed = rows-front d t v m is (maps_at c) own rows _ (g ∙ ap (filled 0 (length rows)) q);
    }

module _ (a : Accepted) (room : Room) (plan : Plan) (g : of Planned a.object.records room plan) where
  abbrev c : Catalogue
  c = of catalogue a.object.records

  abbrev rows : Rows
  rows = record { name = plan.places.functions; code = plan.places.code }

  image-functions : placed function_name function_code function_row plan.places.functions plan.places.code c.functions ≡ (image_of c).functions
  unfolding image_of
  image-functions = λ i. placed function_name function_code function_row (g.at.functions i) (g.at.code i) c.functions

  rows-filled : of rows_made a.object.records a.functions.now 0 rows room.functions ≡ filled zero_row room.functions (image_of c).functions
  rows-filled =
      let r = a.object.records in
      let e = functions-are a.object.readable a.held.functions in
      let i = parts-inside c in
      let at = g.at in
      let fit : length a.functions.now ≤ room.functions = rw (count-functions a.object.readable a.held.functions) at (spacious c room g.fit).functions in
      let names : plan.places.functions + length (each function_name (map (of function_by_number r) a.functions.now)) < 2 ^ 64 = rw e (omega arith) in
      let code : plan.places.code + length (each function_code (map (of function_by_number r) a.functions.now)) < 2 ^ 64 = rw e (omega arith) in
      rows_are r.bytes.now r.index.now r.view a.functions.now room.functions plan.places.functions plan.places.code fit names code
      ∙ ap (filled zero_row room.functions) (ap (placed function_name function_code function_row plan.places.functions plan.places.code) e ∙ image-functions)

  pub accepted-done : (ps : List Patch) → patch_refusal (of object_in a.object.records) c.maps 1 ps ≡ None → (on : Bool) (s p m l b : List ℕ) (y : Summary) → y ≡ summary_by a.object.records.view (counts_in a room plan g) plan
      → s ≡ filled 0 room.sections (image_of c).sections → p ≡ filled 0 room.programs (image_of c).programs
      → m ≡ filled 0 room.maps (image_of c).maps → l ≡ filled 0 room.relocations (image_of c).relocations → b ≡ filled 0 room.bytes (bytes_of (finish (of object_in a.object.records) ps on c))
      → Tried a.object.records room ps on (Ok (record { summary = y; rows = rows })) s p m l b a.functions.now
  unfolding filled_to summary_by
  accepted-done ps fine on s p m l b y e k₁ k₂ k₃ k₄ k₅ =
      let n : y.functions ≡ length a.functions.now = ap (λ (x : Summary). x.functions) e in
      let q : take y.functions a.functions.now ≡ a.functions.now = ap (λ (i : ℕ). take i a.functions.now) n ∙ take-length a.functions.now in
      let f : of rows_made a.object.records (take y.functions a.functions.now) 0 rows room.functions ≡ filled zero_row room.functions (image_of c).functions = rw q rows-filled in
      rw (goes room (of object_in a.object.records) ps a.accepted fine g.fit on)
      (outcome-parts _ (Ok y) s p _ m l b (ap (λ x. Ok x) (e ∙ summary-is a room plan g)) k₁ k₂ f k₃ k₄ k₅, omega arith)
