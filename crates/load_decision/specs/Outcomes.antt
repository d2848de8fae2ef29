-- The outcome of a load of an object, by what refuses it and by its catalogue without patches or rewriting.
use Rattle.std.specs.Prelude.{◌≡◌, Bool, true, false, List, ℕ, None, Ok, Option, Some}
use Rattle.std.proofs.Common.{◌∙◌}
use Rattle.model.specs.declared.Refusal.{Refusal}
use Rattle.model.specs.Catalogue.{Catalogue}
use Rattle.model.specs.Contents.{catalogue_of}
use Rattle.model.specs.Lent.{Lent, bytes_of, summary_of, image_of, fits_in, filled_to, refused_outcome, too_small, outcome_if_fits, outcome_in}
use Rattle.model.specs.declared.Room.{Room}
use Rattle.model.specs.Object.{Object, Patch}
use Rattle.model.specs.Patching.{finish, load}
use Rattle.model.specs.Refusals.{object_refusal, patch_refusal, refusal_of}
use Rattle.finish_laws.specs.Alike.{alike-finish, summary-alike, image-alike, fits-alike}

module _ (room : Room) (o : Object) (ps : List Patch) where
  abbrev c : Catalogue
  c = catalogue_of o

  abbrev patches_refused : Option Refusal
  patches_refused = patch_refusal o c.maps 1 ps

  -- whether rewriting is on or off
  abbrev pub RefusedWith : Refusal → Type 0
  RefusedWith q = (on : Bool) → outcome_in room (load o ps on) ≡ refused_outcome room q

  pub back-object : (q : Refusal) → object_refusal o ≡ Some q → RefusedWith q
  unfolding load refusal_of
  back-object q e on = rw e

  pub back-patches : (q : Refusal) → object_refusal o ≡ None → patches_refused ≡ Some q → RefusedWith q
  unfolding load refusal_of
  back-patches q e f on = rw (e, f)

  module _ (e : object_refusal o ≡ None) (f : patches_refused ≡ None) where
    accepted-is : (on : Bool) → outcome_in room (load o ps on) ≡ outcome_if_fits room (finish o ps on c) (fits_in room (image_of (finish o ps on c)))
    unfolding load refusal_of
    accepted-is on = rw (e, f)

    pub back-small : fits_in room (image_of c) ≡ false → RefusedWith too_small
    back-small g on = accepted-is on ∙ rw (fits-alike c (finish o ps on c) (alike-finish o ps on c) room, g)

    -- the tables are those of the catalogue without patches or rewriting, the bytes are not
    abbrev pub image_but : List ℕ → Lent
    image_but bytes =
        record {
          sections = (image_of c).sections;
          programs = (image_of c).programs;
          functions = (image_of c).functions;
          maps = (image_of c).maps;
          relocations = (image_of c).relocations;
          bytes = bytes;
        }

    pub goes : fits_in room (image_of c) ≡ true → (on : Bool)
        → outcome_in room (load o ps on) ≡ record { reply = Ok (summary_of c); lent = filled_to room (image_but (bytes_of (finish o ps on c))) }
    goes g on =
        let a = alike-finish o ps on c in
        let k = finish o ps on c in
        accepted-is on
        ∙ rw (fits-alike c k a room, g)
        (λ i. record { reply = Ok (summary-alike c k a i); lent = filled_to room (image-alike c k a i) })
