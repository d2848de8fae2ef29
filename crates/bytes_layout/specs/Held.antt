-- The tables of numbers that a load holds, and the places of the parts of the catalogue's bytes.
use Rattle.std.specs.Prelude.{◌≡◌, List, [], ◌++◌, ℕ, ◌+◌, ◌^◌, ◌<◌, ◌≤◌, length, get_or, drop, None, Option}
use Rattle.std.proofs.Common.{sym, ap, ◌∙◌, arith, append_assoc, length-append}
use Rattle.object_view.specs.declared.View.{View}
use Rattle.model.specs.declared.Extent.{Extent}
use Rattle.model.specs.Bytes.{each}
use Rattle.model.specs.Catalogue.{Catalogue}
use Rattle.model.specs.Contents.{licence_of, version_of}
use Rattle.model.specs.Lent.{section_name, program_name, function_name, function_code, map_name, map_own, bytes_of, sections_at, programs_at, functions_at, code_start, maps_at, own_start}
use Rattle.model.specs.Refusals.{object_refusal}
use Rattle.catalogue_laws.specs.Groups.{all-at}
use Rattle.catalogue_laws.specs.SectionsPrograms.{All}
use Rattle.object.specs.View.{object_in}
use Rattle.catalogue_numbers.specs.Numbers.{section_numbers, program_numbers, function_numbers, map_numbers}
use Rattle.catalogue_numbers.specs.Fits.{FunctionFits, SourceFits, MapFits}
use Rattle.accepted_numbers.specs.Numbers.{sections-below, programs-listed as programs-below, functions-fit, maps-fit}
use Rattle.records.specs.declared.MapSource.{MapSource}
use Rattle.records.specs.Maps.{map_source_of}
use Rattle.records.specs.Readable.{Readable}
use Rattle.bytes_names.specs.declared.Piece.{Piece}
use Rattle.bytes_names.specs.Inside.{KnownSource}
use Rattle.bytes_names.specs.Pieces.{piece_of}
use Rattle.bytes_maps.specs.Own.{own_bytes}
use Rattle.bytes_code.specs.Code.{code_at}
use Rattle.parse_first.specs.LicenceVersion.{license_at}
use Rattle.bytes_layout.specs.declared.Part.{Part}
use Rattle.bytes_layout.specs.declared.Places.{Places}
use Rattle.bytes_layout.specs.Parts.{catalogue, licence-is, section-names, program-names, function-names, function-code, map-names, map-own}
use Rattle.bytes_layout.specs.Listed.{PartFits, PartListed}
use Rattle.bytes_layout.specs.Laid.{Laid}

-- the four tables, the licence and the version
pub record Held (d t : List ℕ) (v : View) (s p f m : List ℕ) (l : Option Extent) (w : Option ℕ) : Type 0 where
  pub sections : s ≡ section_numbers d t v
  pub programs : p ≡ program_numbers d t v
  pub functions : f ≡ function_numbers d t v
  pub maps : m ≡ map_numbers d t v
  pub few-sections : length s ≤ 69632
  pub few-programs : length p ≤ 69632
  pub few-functions : length f ≤ 65536
  pub few-maps : length m ≤ 69632
  pub license : l ≡ license_at d t v
  pub version : w ≡ version_of (object_in d t v)

-- where the parts begin, and where the last ends
pub record At (c : Catalogue) (q : Places) : Type 0 where
  pub sections : q.sections ≡ sections_at c
  pub programs : q.programs ≡ programs_at c
  pub functions : q.functions ≡ functions_at c
  pub code : q.code ≡ code_start c
  pub maps : q.maps ≡ maps_at c
  pub own : q.own ≡ own_start c
  pub end : q.end ≡ length (bytes_of c)
  pub small : length (bytes_of c) < 2 ^ 44

-- the bytes end behind the maps' own
bytes-end : (c : Catalogue) → length (bytes_of c) ≡ own_start c + length (each map_own c.maps)
unfolding bytes_of own_start maps_at code_start functions_at programs_at sections_at
bytes-end c = rw (length-append, length-append, length-append, length-append, length-append, length-append) (omega arith)

-- each part begins inside
pub record PartsInside (c : Catalogue) : Type 0 where
  pub sections : sections_at c ≤ length (bytes_of c)
  pub programs : programs_at c ≤ length (bytes_of c)
  pub functions : functions_at c + length (each function_name c.functions) ≤ length (bytes_of c)
  pub code : code_start c + length (each function_code c.functions) ≤ length (bytes_of c)
  pub maps : maps_at c ≤ length (bytes_of c)
  pub own : own_start c + length (each map_own c.maps) ≡ length (bytes_of c)

pub parts-inside : (c : Catalogue) → PartsInside c
unfolding own_start maps_at code_start functions_at programs_at sections_at
parts-inside c =
    let e = bytes-end c in
    record { sections = omega arith; programs = omega arith; functions = omega arith; code = omega arith; maps = omega arith; own = sym e }

-- ---- what the numbers of a table stand for is there

module _ {d t : List ℕ} {v : View} (r : Readable d t v) (ok : object_refusal (object_in d t v) ≡ None) where
  pub all-functions-fit : {f : List ℕ} → f ≡ function_numbers d t v → (k : ℕ) → k < length f → FunctionFits d t v (get_or f k 0)
  all-functions-fit {f} e k h = all-at (FunctionFits d t v) f k (rw e (functions-fit d t v ok r)) h

  pub all-maps-fit : {m : List ℕ} → m ≡ map_numbers d t v → (k : ℕ) → k < length m → MapFits d t v (get_or m k 0)
  all-maps-fit {m} e k h = all-at (MapFits d t v) m k (rw e (maps-fit d t v ok r)) h

module _ {d t : List ℕ} {v : View} (r : Readable d t v) (ok : object_refusal (object_in d t v) ≡ None) {s p f m : List ℕ} {l : Option Extent} {w : Option ℕ} (held : Held d t v s p f m l w) where
  source_known : (s : MapSource) → SourceFits d t v s → KnownSource v s
  source_known (MapSource.Section i) e = e
  source_known (MapSource.Symbol j) e = e.symbol

  -- ---- the tables

  listed : (part : Part) (order : List ℕ) → length order ≤ 69632 → All (PartFits part d t v) order → PartListed part d t v order
  listed part order few a = (few, λ k h. all-at (PartFits part d t v) order k a h)

  pub sections-listed : PartListed (Part.Name Piece.SectionName) d t v s
  sections-listed = listed (Part.Name Piece.SectionName) s held.few-sections (rw held.sections (sections-below d t v ok))

  pub programs-listed : PartListed (Part.Name Piece.SymbolName) d t v p
  programs-listed = listed (Part.Name Piece.SymbolName) p held.few-programs (rw held.programs (programs-below d t v ok))

  pub functions-listed : PartListed (Part.Name Piece.SymbolName) d t v f
  functions-listed = (omega (arith, held.few-functions), λ k h. (all-functions-fit r ok held.functions k h).symbol)

  pub code-listed : PartListed Part.Code d t v f
  code-listed = (omega (arith, held.few-functions), all-functions-fit r ok held.functions)

  pub maps-listed : PartListed (Part.Name Piece.MapName) d t v m
  maps-listed = (held.few-maps, λ k h. source_known (map_source_of v.sections (get_or m k 0)) (all-maps-fit r ok held.maps k h))

  pub own-listed : PartListed Part.Own d t v m
  own-listed = (held.few-maps, λ k h. tt)

  -- ---- the parts, by the tables in hand

  abbrev c : Catalogue
  c = catalogue d t v

  names-of-sections : each (piece_of Piece.SectionName d t v) s ≡ each section_name c.sections
  names-of-sections = rw held.sections (sym (section-names d t v r ok))

  names-of-programs : each (piece_of Piece.SymbolName d t v) p ≡ each program_name c.programs
  names-of-programs = rw held.programs (sym (program-names d t v r ok))

  names-of-functions : each (piece_of Piece.SymbolName d t v) f ≡ each function_name c.functions
  names-of-functions = rw held.functions (sym (function-names d t v r ok))

  pub code-of-functions : each (code_at d t v) f ≡ each function_code c.functions
  code-of-functions = rw held.functions (sym (function-code d t v r ok))

  names-of-maps : each (piece_of Piece.MapName d t v) m ≡ each map_name c.maps
  names-of-maps = rw held.maps (sym (map-names d t v r ok))

  own-of-maps : each (own_bytes d t v) m ≡ each map_own c.maps
  own-of-maps = rw held.maps (sym (map-own d t v r ok))

  -- ---- the places, by lengths that were summed up

  pub places-are : (l a b e g i k : ℕ) → l ≡ length (licence_of (object_in d t v)) → a ≡ length (each (piece_of Piece.SectionName d t v) s)
      → b ≡ length (each (piece_of Piece.SymbolName d t v) p) → e ≡ length (each (piece_of Piece.SymbolName d t v) f) → g ≡ length (each (code_at d t v) f)
      → i ≡ length (each (piece_of Piece.MapName d t v) m) → k ≡ length (each (own_bytes d t v) m) → l + a + b + e + g + i + k < 2 ^ 44
      → At c (record { sections = l; programs = l + a; functions = l + a + b; code = l + a + b + e; maps = l + a + b + e + g; own = l + a + b + e + g + i; end = l + a + b + e + g + i + k })
  unfolding sections_at programs_at functions_at code_start maps_at own_start
  places-are l a b e g i k q₀ q₁ q₂ q₃ q₄ q₅ q₆ small =
      let p₀ : l ≡ length c.licence = q₀ ∙ ap length (sym (licence-is d t v r ok)) in
      let p₁ : a ≡ length (each section_name c.sections) = q₁ ∙ ap length names-of-sections in
      let p₂ : b ≡ length (each program_name c.programs) = q₂ ∙ ap length names-of-programs in
      let p₃ : e ≡ length (each function_name c.functions) = q₃ ∙ ap length names-of-functions in
      let p₄ : g ≡ length (each function_code c.functions) = q₄ ∙ ap length code-of-functions in
      let p₅ : i ≡ length (each map_name c.maps) = q₅ ∙ ap length names-of-maps in
      let p₆ : k ≡ length (each map_own c.maps) = q₆ ∙ ap length own-of-maps in
      let end = bytes-end c in
      record {
        sections = p₀;
        programs = omega arith;
        functions = omega arith;
        code = omega arith;
        maps = omega arith;
        own = omega arith;
        end = omega arith;
        small = omega arith;
      }

  -- ---- all of them

  pub bytes-are : ((((((licence_of (object_in d t v) ++ each (piece_of Piece.SectionName d t v) s) ++ each (piece_of Piece.SymbolName d t v) p)
      ++ each (piece_of Piece.SymbolName d t v) f) ++ each (code_at d t v) f) ++ each (piece_of Piece.MapName d t v) m)
      ++ each (own_bytes d t v) m) ≡ bytes_of c
  unfolding bytes_of
  bytes-are = rw (← licence-is d t v r ok, names-of-sections, names-of-programs, names-of-functions, code-of-functions, names-of-maps, own-of-maps, append_assoc, append_assoc, append_assoc, append_assoc, append_assoc)

  pub bytes-length : length (bytes_of c)
      ≡ length (licence_of (object_in d t v)) + length (each (piece_of Piece.SectionName d t v) s)
      + length (each (piece_of Piece.SymbolName d t v) p) + length (each (piece_of Piece.SymbolName d t v) f)
      + length (each (code_at d t v) f) + length (each (piece_of Piece.MapName d t v) m)
      + length (each (own_bytes d t v) m)
  bytes-length = ap length (sym bytes-are) ∙ rw (length-append, length-append, length-append, length-append, length-append, length-append)

  -- the licence is laid: there is room for what is behind it
  pub bytes-laid : (t₀ : List ℕ) {n : ℕ} {out : List ℕ} → n ≡ length (licence_of (object_in d t v)) → length (bytes_of c) ≤ length t₀ → out ≡ licence_of (object_in d t v) ++ drop n t₀
      → Laid t₀ (licence_of (object_in d t v))
      (each (piece_of Piece.SectionName d t v) s ++ (each (piece_of Piece.SymbolName d t v) p ++ (each (piece_of Piece.SymbolName d t v) f ++ (each (code_at d t v) f ++ (each (piece_of Piece.MapName d t v) m ++ (each (own_bytes d t v) m ++ [])))))) n out
  bytes-laid t₀ e room g = record { reach = e; room = rw (length-append, length-append, length-append, length-append, length-append, length-append) (omega (arith, bytes-length, e, room)); held = g }
