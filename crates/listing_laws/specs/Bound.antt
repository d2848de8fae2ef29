-- How long the text can be.
use Rattle.std.specs.Prelude.{◌≡◌, Bool, true, false, cond, List, [], ◌∷◌, ◌++◌, ℕ, zero, suc, ◌+◌, ◌*◌, ◌/◌, ◌%◌, ◌≤◌, ltb, get_or, take, drop, None, Option, Some}
use Rattle.std.proofs.Common.{suc-mul, arith}
use Rattle.std.proofs.Math.ListN.{length, length-append}
use Rattle.model.specs.declared.Refusal.{Refusal}
use Rattle.model.specs.Bytes.{each, records}
use Rattle.model.specs.Catalogue.{Function, Map, Catalogue}
use Rattle.model.specs.Contents.{value_size}
use Rattle.model.specs.Lent.{program_name, function_name, map_name, bytes_of}
use Rattle.model.specs.Listing.{digits, line, version_text, program_line, function_line, map_line, refusal_text, catalogue_text}
use Rattle.model.specs.ReadBack.{program_read}
use Rattle.listing_text.specs.Variants.{name-short}

digits-most : (k n : ℕ) → length (digits k n) ≤ k
unfolding digits
digits-most zero n = omega arith
digits-most (suc k) n = go (ltb n 10) (digits k (n / 10)) (digits-most k (n / 10))
  where
    go : (b : Bool) (front : List ℕ) → length front ≤ k → length (cond b ((48 + n) ∷ []) (front ++ ((48 + n % 10) ∷ []))) ≤ suc k
    go true front h = omega arith
    go false front h = rw length-append (omega arith)

version-most : (v : Option ℕ) → length (version_text v) ≤ 20
version-most None = omega arith
version-most (Some n) = digits-most 20 n

program-most : (b r : List ℕ) → length (program_line (program_read b r)) ≤ length (program_name (program_read b r)) + 67
unfolding program_line line program_read
program-most b r =
    simp length-append
    (omega (arith, name-short (get_or r 2 0) (get_or r 3 0) (get_or r 4 0), digits-most 20 (get_or r 5 0), digits-most 20 (get_or r 6 0)))

function-most : (f : Function) → length (function_line f) ≤ length (function_name f) + 73
unfolding function_line line
function-most f = simp length-append (omega (arith, digits-most 20 f.section.0, digits-most 20 f.address, digits-most 20 (length f.code)))

map-most : (m : Map) → length (map_line m) ≤ length (map_name m) + 68
unfolding map_line line
map-most m = simp length-append (omega (arith, digits-most 20 m.section.0, digits-most 20 (value_size m.def), digits-most 20 (length m.own)))

pub refusal-most : (r : Refusal) → length (refusal_text r) ≤ 71
unfolding refusal_text line
refusal-most r = simp length-append (omega (arith, digits-most 20 r.number, digits-most 20 r.section.0, digits-most 20 r.symbol.0))

each-most : {A : Type 0} (f g : A → List ℕ) (m : ℕ) (xs : List A) → ((x : A) → length (f x) ≤ length (g x) + m)
    → length (each f xs) ≤ length (each g xs) + length xs * m
unfolding each
each-most f g m [] h = omega arith
each-most f g m (x ∷ xs) h = rw (length-append, length-append, suc-mul) (omega (arith, h x, each-most f g m xs h))

programs-most : (b : List ℕ) (n : ℕ) (s : List ℕ) → length (each program_line (records (program_read b) 7 n s)) ≤ length (each program_name (records (program_read b) 7 n s)) + n * 67
unfolding each records
programs-most b zero s = omega arith
programs-most b (suc n) s = rw (length-append, length-append) (omega (arith, program-most b (take 7 s), programs-most b n (drop 7 s)))

module _ (b : List ℕ) (n : ℕ) (s : List ℕ) (c : Catalogue) (read : c.programs ≡ records (program_read b) 7 n s) where
  -- the bytes hold the licence and all names
  pub catalogue-most : length (catalogue_text c) ≤ length (bytes_of c) + n * 67 + length c.functions * 73 + length c.maps * 68 + 38
  unfolding catalogue_text bytes_of line
  catalogue-most =
      let p : length (each program_line c.programs) ≤ length (each program_name c.programs) + n * 67 = rw read (programs-most b n s) in
      let f = each-most function_line function_name 73 c.functions function-most in
      let m = each-most map_line map_name 68 c.maps map-most in
      simp length-append (omega (arith, version-most c.version))
