-- The check of a patch list, and what it leaves for the act.
use Rattle.std.specs.Prelude.{◌≡◌, List, ◌++◌, ℕ, ◌<◌, length, None, Option}
use Rattle.object_view.specs.declared.View.{View}
use Rattle.model.specs.declared.Extent.{Extent}
use Rattle.model.specs.Bytes.{records}
use Rattle.model.specs.Catalogue.{Map}
use Rattle.model.specs.Object.{Object}
use Rattle.model.specs.PatchList.{patches_of}
use Rattle.model.specs.Refusals.{object_refusal, patch_refusal}
use Rattle.records.specs.Readable.{Readable}
use Rattle.object.specs.View.{object_in}
use Rattle.catalogue_numbers.specs.Numbers.{map_numbers}
use Rattle.patch_maps.specs.Places.{map_places}
use Rattle.patch_maps.specs.Found.{places-front}
use Rattle.bytes_layout.specs.Held.{all-maps-fit}
use Rattle.patch_checks.specs.Entries.{NamesFound}
use Rattle.patch_checks.specs.Checks.{Sited}

-- nothing is made ready for an empty list
pub record ReadyToPatch (d t : List ℕ) (v : View) (entries maps order by : List ℕ) : Type 0 where
  pub named : 0 < length entries → NamesFound d t v entries order
  pub sited : 0 < length entries → Sited d t v maps by

pub no-entries : (o : Object) (ms : List Map) (entries lent : List ℕ) → length entries ≡ 0 → patch_refusal o ms 1 (patches_of entries lent) ≡ None
unfolding patch_refusal patches_of records
no-entries o ms entries lent e = rw e

pub sited-maps : {d t : List ℕ} {v : View} (r : Readable d t v) (ok : object_refusal (object_in d t v) ≡ None) {m : List ℕ} → m ≡ map_numbers d t v → (by rest : List ℕ)
    → by ≡ map_places d t v m ++ rest → Sited d t v m by
sited-maps {d} {t} {v} r ok {m} is by rest e = record { readable = r; fits = all-maps-fit r ok is; places = places-front d t v m by rest e }
