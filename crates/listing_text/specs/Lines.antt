-- A line as it is put: its pieces one after the other.
use Rattle.std.specs.Prelude.{◌≡◌, refl, List, ◌∷◌, ◌++◌, ℕ, zero, suc, ◌/◌, length, take, drop, Option}
use Rattle.std.proofs.Common.{ap, append_assoc}
use Rattle.std.proofs.Math.ListN.{get_or}
use Rattle.model.specs.declared.Refusal.{Refusal}
use Rattle.model.specs.declared.Summary.{Summary}
use Rattle.model.specs.Bytes.{ascii, each, records, part}
use Rattle.model.specs.Instruction.{instructions}
use Rattle.model.specs.Listing.{decimal, line, variant_name, version_text, program_line, function_line, map_line, refusal_text}
use Rattle.model.specs.ReadBack.{program_from, program_read, function_read, map_read}
use Rattle.listing_text.specs.Flat.{row_from, function_from, top_text, flat_text}
use Rattle.listing_text.specs.Rows.{each-records}
use Rattle.listing_text.specs.Variants.{name-alone}

-- a space and the number
abbrev pub number_field : ℕ → List ℕ
number_field n = 32 ∷ decimal n

instructions-length : (n : ℕ) (s : List ℕ) → length (instructions n s) ≡ n
unfolding instructions
instructions-length zero s = refl
instructions-length (suc n) s = ap suc (instructions-length n (drop 8 s))

module _ (b r : List ℕ) where
  pub program-text : (((((ascii "program " ++ part b (get_or r 0 0) (get_or r 1 0)) ++ ascii " ") ++ variant_name (program_from (get_or r 2 0) 0 0)) ++ number_field (get_or r 5 0)) ++ number_field (get_or r 6 0)) ++ ascii "\n"
      ≡ program_line (program_read b r)
  unfolding program_line program_read line
  program-text = rw (name-alone (get_or r 2 0) (get_or r 3 0) (get_or r 4 0)) (simp append_assoc)

  pub function-text : (((((ascii "function" ++ number_field (get_or r 0 0)) ++ number_field (get_or r 1 0)) ++ number_field (get_or r 6 0 / 8)) ++ ascii " ") ++ part b (get_or r 3 0) (get_or r 4 0)) ++ ascii "\n"
      ≡ function_line (function_from b r)
  unfolding function_line function_read row_from line
  function-text = rw (instructions-length (get_or r 6 0 / 8) (part b (get_or r 5 0) (get_or r 6 0))) (simp append_assoc)

  pub map-text : ((((ascii "map " ++ part b (get_or r 0 0) (get_or r 1 0)) ++ number_field (get_or r 2 0)) ++ number_field (get_or r 9 0)) ++ number_field (length (part b (get_or r 5 0) (get_or r 6 0)))) ++ ascii "\n"
      ≡ map_line (map_read b r)
  unfolding map_line map_read line
  map-text = simp append_assoc

pub refusal-text : (r : Refusal) → (((ascii "refused" ++ number_field r.number) ++ number_field r.section.0) ++ number_field r.symbol.0) ++ ascii "\n" ≡ refusal_text r
unfolding refusal_text line
refusal-text r = simp append_assoc

pub top-text : (licence : List ℕ) (v : Option ℕ) → (((ascii "license " ++ licence) ++ ascii "\nversion ") ++ version_text v) ++ ascii "\n" ≡ top_text licence v
unfolding top_text line
top-text licence v = simp append_assoc

pub flat-text : (h : Summary) (programs functions maps bytes : List ℕ)
    → ((top_text (take h.license bytes) h.version ++ each (λ (r : List ℕ). program_line (program_read bytes r)) (records (λ (r : List ℕ). r) 7 h.programs programs)) ++ each (λ (r : List ℕ). function_line (function_from bytes r)) (records (λ (r : List ℕ). r) 7 h.functions functions)) ++ each (λ (r : List ℕ). map_line (map_read bytes r)) (records (λ (r : List ℕ). r) 27 h.maps maps)
    ≡ flat_text h programs functions maps bytes
unfolding flat_text
flat-text h programs functions maps bytes =
    rw (each-records program_line (program_read bytes) 7 h.programs programs, each-records function_line (function_from bytes) 7 h.functions functions, each-records map_line (map_read bytes) 27 h.maps maps)
    (simp append_assoc)
