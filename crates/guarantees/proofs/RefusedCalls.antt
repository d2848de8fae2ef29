-- Demand 1, its part in the definitions: a refused call zeroes all that was lent and names one number with its places; only a lack of room is 24.
use Rattle.std.specs.Prelude.{◌≡◌, refl, ◌⊎◌, Bool, true, false, List, ℕ, zero, suc, ◌+◌, ◌/◌, length, drop, Err, None, Ok, Option, Some}
use Rattle.std.proofs.Common.{sym, ap, ◌∙◌, inl, inr, arith}
use Rattle.model.specs.declared.Refusal.{Refusal}
use Rattle.model.specs.Bytes.{maybe, records}
use Rattle.model.specs.Object.{Patch}
use Rattle.model.specs.Catalogue.{Catalogue}
use Rattle.model.specs.Contents.{catalogue_of}
use Rattle.model.specs.Refusals.{refusal_of}
use Rattle.model.specs.Patching.{Verdict, refused, accepted, verdict, finish, load}
use Rattle.model.specs.PatchList.{patch_from, patches_of}
use Rattle.model.specs.Lent.{summary_of, image_of, fits_in, filled_to, refused_outcome, too_small, outcome_if_fits, outcome_in}
use Rattle.model.specs.declared.Room.{Room}
use Rattle.guarantees.specs.WordsOfDemand3.{Input, object_read, verdict_on, outcome_on}
use Rattle.guarantees.specs.AcceptedInputs.{input_refusal, verdict-is, outcome-is}
use Rattle.guarantees.specs.RefusalPlaces.{Names, Says, VerdictNumber}
use Rattle.guarantees.proofs.RefusalPlaces.{number-24, load-says, input-says}
use Rattle.guarantees.specs.RefusedCalls.{Larger, Proper, RefusedZeroes, RefusedNames, Only24}

-- how many entries a lent patch list has
length-records : {A : Type 0} (f : List ℕ → A) (w n : ℕ) (s : List ℕ) → length (records f w n s) ≡ n
unfolding records
length-records f w zero s = refl
length-records f w (suc n) s = ap suc (length-records f w n (drop w s))

pub patch-count : (entries bytes : List ℕ) → length (patches_of entries bytes) ≡ (length entries + 4) / 5
unfolding patches_of
patch-count entries bytes = length-records (patch_from bytes) 5 ((length entries + 4) / 5) entries

-- ---- without lent tables

-- a refusal of an input and a patch list: one of its numbers but 24
pub refused_says : (x : Input) (ps : List Patch) (on : Bool) (r : Refusal) → verdict_on x ps on ≡ refused r
    → VerdictNumber x r.number × Names (object_read x) ps r
unfolding load
refused_says x ps on r h = outer (input_refusal x) (input-says x ps) (sym (verdict-is x ps on) ∙ h)
  where
    inner : (q : Option Refusal) → Says (VerdictNumber x) (object_read x) ps q → verdict q (finish (object_read x) ps on (catalogue_of (object_read x))) ≡ refused r
        → VerdictNumber x r.number × Names (object_read x) ps r
    inner None b e = let z : ◌≡◌ {A = ℕ} 0 1 = cc in let no : ⊥ = omega arith in absurd no
    inner (Some y) b e = let k : r ≡ y = cc in rw k b.said

    outer : (q : Option Refusal) → Says (VerdictNumber x) (object_read x) ps q
        → maybe q (verdict (refusal_of (object_read x) ps) (finish (object_read x) ps on (catalogue_of (object_read x)))) (λ y. refused y) ≡ refused r
        → VerdictNumber x r.number × Names (object_read x) ps r
    outer None b e = inner (refusal_of (object_read x) ps) (load-says x ps) e
    outer (Some y) b e = let k : r ≡ y = cc in rw k b.said

-- ---- the call

module _ (x : Input) (entries bytes : List ℕ) (on : Bool) (room : Room) where
  -- a refusal of a verdict stays
  pub refused-is : (r : Refusal) → verdict_on x (patches_of entries bytes) on ≡ refused r → outcome_on x entries bytes on room ≡ refused_outcome room r
  refused-is r e = outcome-is x entries bytes on room ∙ ap (outcome_in room) e

  -- 24 where the image does not fit
  pub small_is : (c : Catalogue) → verdict_on x (patches_of entries bytes) on ≡ accepted c → fits_in room (image_of c) ≡ false
      → outcome_on x entries bytes on room ≡ refused_outcome room too_small
  small_is c e f = outcome-is x entries bytes on room ∙ ap (outcome_in room) e ∙ ap (outcome_if_fits room c) f

  -- and a catalogue where it does
  pub large_is : (c : Catalogue) → verdict_on x (patches_of entries bytes) on ≡ accepted c → fits_in room (image_of c) ≡ true
      → outcome_on x entries bytes on room ≡ record { reply = Ok (summary_of c); lent = filled_to room (image_of c) }
  large_is c e f = outcome-is x entries bytes on room ∙ ap (outcome_in room) e ∙ ap (outcome_if_fits room c) f

  -- why a call is refused
  pub record Refused (r : Refusal) : Type 0 where
    pub reason : (verdict_on x (patches_of entries bytes) on ≡ refused r) ⊎ ((r ≡ too_small) × Larger x entries bytes on room)
    pub call : outcome_on x entries bytes on room ≡ refused_outcome room r

  why : (r : Refusal) → (outcome_on x entries bytes on room).reply ≡ Err r → Refused r
  why r q = go (verdict_on x (patches_of entries bytes) on) refl (ap (λ z. z.reply) (sym (outcome-is x entries bytes on room)) ∙ q)
    where
      fit : (c : Catalogue) (b : Bool) → verdict_on x (patches_of entries bytes) on ≡ accepted c → fits_in room (image_of c) ≡ b → (outcome_if_fits room c b).reply ≡ Err r
          → Refused r
      fit c true e f q = let z : ◌≡◌ {A = ℕ} 0 1 = cc in let no : ⊥ = omega arith in absurd no
      fit c false e f q = let k : r ≡ too_small = cc in record { reason = inr (k, (c, e, f)); call = small_is c e f ∙ ap (refused_outcome room) (sym k) }

      go : (a : Verdict) → verdict_on x (patches_of entries bytes) on ≡ a → (outcome_in room a).reply ≡ Err r → Refused r
      go (refused y) e q = let k : y ≡ r = cc in record { reason = inl (e ∙ ap refused k); call = refused-is y e ∙ ap (refused_outcome room) k }
      go (accepted c) e q = fit c (fits_in room (image_of c)) e refl q

  pub refused-zeroes : RefusedZeroes x entries bytes on room
  refused-zeroes r q = ap (λ z. z.lent) (why r q).call

  pub refused-names : RefusedNames x entries bytes on room
  refused-names r q = go (why r q).reason
    where
      go : (verdict_on x (patches_of entries bytes) on ≡ refused r) ⊎ ((r ≡ too_small) × Larger x entries bytes on room) → Proper x entries bytes on room r
      go (inl e) = let ((a, b), c) = refused_says x (patches_of entries bytes) on r e in (a, c)
      go (inr (k, w)) = rw k (number-24 x, record { section = refl; symbol = refl; entry = refl })

  pub only-24 : Only24 x entries bytes on room
  only-24 r q n = go (why r q).reason
    where
      go : (verdict_on x (patches_of entries bytes) on ≡ refused r) ⊎ ((r ≡ too_small) × Larger x entries bytes on room) → Larger x entries bytes on room
      go (inl e) = let ((a, b), c) = refused_says x (patches_of entries bytes) on r e in absurd (b n)
      go (inr (k, w)) = w
