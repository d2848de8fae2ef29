-- What is lent to the act, for the maps of the object's own table.
use Rattle.std.specs.Prelude.{◌≡◌, refl, List, ◌++◌, ℕ, ◌*◌, take, None}
use Rattle.std.proofs.Common.{sym, ◌∙◌}
use Rattle.std.proofs.Math.Path.{ap}
use Rattle.std.proofs.Math.ListN.{length}
use Rattle.std.proofs.lemmas.List.{length-map}
use Rattle.std.proofs.Math.Seq.{take_at}
use Rattle.object_view.specs.declared.View.{View}
use Rattle.model.specs.Bytes.{each}
use Rattle.model.specs.Catalogue.{Map}
use Rattle.model.specs.Contents.{catalogue_of}
use Rattle.model.specs.Lent.{map_name, map_own, map_row, placed, joined}
use Rattle.model.specs.Patching.{patched, with_maps}
use Rattle.model.specs.PatchList.{patches_of}
use Rattle.model.specs.Refusals.{patch_refusal}
use Rattle.catalogue_laws.specs.Placed.{length-joined}
use Rattle.object.specs.View.{object_in}
use Rattle.catalogue_numbers.specs.Numbers.{map_at, map_numbers, maps-by}
use Rattle.records.specs.Readable.{Readable}
use Rattle.patch_checks.specs.Entries.{NamesFound, entry_count}
use Rattle.patch_checks.specs.Checks.{maps_of_numbers, Sited, rest_at, rest_all}
use Rattle.patch_data.specs.Acts.{Rows, own_after, own_first, own-last}
use Rattle.patch_data.specs.Alone.{Alone, numbers-alone}
use Rattle.patch_data.specs.Patched.{patched_maps, maps-patched}

module _ (d t : List ℕ) (v : View) where
  -- the object's maps
  abbrev pub object_maps : List Map
  object_maps = (catalogue_of (object_in d t v)).maps

  -- symbols by name, the maps' places by section and their rows
  pub record Ready (entries order by rows : List ℕ) (own : ℕ) : Type 0 where
    pub sited : Sited d t v (map_numbers d t v) by
    pub named : NamesFound d t v entries order
    pub placed : Rows d t v (map_numbers d t v) own rows

  -- what the object's maps own once e entries have acted
  abbrev pub own_at : List ℕ → List ℕ → ℕ → List ℕ
  own_at entries lent e = own_after d t v entries lent (map_numbers d t v) e

  -- what is left of the checks at entry e
  abbrev pub checks_at : List ℕ → List ℕ → ℕ → Type 0
  checks_at entries lent e = rest_at (object_in d t v) (maps_of_numbers d t v (map_numbers d t v)) entries lent e ≡ None

  module _ (readable : Readable d t v) where
    maps-are : maps_of_numbers d t v (map_numbers d t v) ≡ object_maps
    maps-are = sym (maps-by d t v readable)

    pub alone : Alone d t v (map_numbers d t v)
    alone = numbers-alone d t v readable

    module _ (entries lent : List ℕ) where
      pub starts : each map_own object_maps ≡ own_at entries lent 0
      starts = ap (each map_own) (sym maps-are) ∙ own_first d t v entries lent (map_numbers d t v)

      pub ends : own_at entries lent (entry_count entries) ≡ each map_own (patched (object_in d t v) (patches_of entries lent) (catalogue_of (object_in d t v))).maps
      unfolding with_maps
      ends =
          own-last d t v entries lent (map_numbers d t v)
          ∙ ap (λ ms. each map_own (patched_maps (object_in d t v) (patches_of entries lent) ms)) maps-are
          ∙ ap (λ c. each map_own c.maps) (sym (maps-patched (object_in d t v) (patches_of entries lent) (catalogue_of (object_in d t v))))

      pub checks-all : patch_refusal (object_in d t v) object_maps 1 (patches_of entries lent) ≡ None → checks_at entries lent 0
      checks-all z =
          sym (rest_all (object_in d t v) (maps_of_numbers d t v (map_numbers d t v)) entries lent)
          ∙ ap (λ ms. patch_refusal (object_in d t v) ms 1 (patches_of entries lent)) maps-are
          ∙ z

  -- ---- from the map numbers of the object's table

  module _ (maps : List ℕ) (e : maps ≡ map_numbers d t v) where
    pub sited-table : (by : List ℕ) → Sited d t v maps by → Sited d t v (map_numbers d t v) by
    sited-table by s = rw e at s

    -- where the rows stand in front of a list
    pub rows-front : (at own : ℕ) (rows r : List ℕ) → rows ≡ joined (placed map_name map_own map_row at own (maps_of_numbers d t v maps)) ++ r
        → Rows d t v (map_numbers d t v) own rows
    unfolding map_row
    rows-front at own rows r q =
        let l : length (joined (placed map_name map_own map_row at own (maps_of_numbers d t v maps))) ≡ length maps * 27 =
        length-joined map_name map_own map_row 27 (λ a b m. refl) at own (maps_of_numbers d t v maps)
        ∙ ap (λ k. k * 27) (length-map maps (map_at d t v))
        in
        let f : Rows d t v maps own rows =
        record { at = at; front = ap (take (length maps * 27)) q ∙ take_at (joined (placed map_name map_own map_row at own (maps_of_numbers d t v maps))) r (length maps * 27) l }
        in
        rw e at f
