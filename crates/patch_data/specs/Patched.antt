-- The maps once a patch list has acted: each by itself, as the entries before left it.
use Rattle.std.specs.Prelude.{◌≡◌, Bool, cond, ℕ}
use Rattle.std.proofs.Math.Path.{refl}
use Rattle.std.proofs.Common.{sym, ap, ◌∙◌}
use Rattle.std.proofs.Math.Bool.{true, false}
use mathlib.Core.List.{List, [], ◌∷◌, ◌++◌, map}
use Rattle.std.proofs.Math.ListN.{length}
use Rattle.std.proofs.lemmas.List.Edits.{sets}
use Rattle.std.proofs.Math.Seq.{length-sets}
use Rattle.model.specs.Catalogue.{Map, Catalogue}
use Rattle.model.specs.Lent.{map_own}
use Rattle.model.specs.Object.{Symbol, Object, Patch}
use Rattle.model.specs.Patching.{patch_map, with_maps, patch_maps, patched}
use Rattle.model.specs.Refusals.{bearers}
use Rattle.model.specs.Symbols.{lies_in}

-- what an entry makes of a map, by the symbols that bear its name
abbrev pub reach : List Symbol → List ℕ → Map → Map
reach [] d m = m
reach (y ∷ ys) d m = patch_map y d m

unfoldable pub patched_map : Object → List Patch → Map → Map
patched_map o [] m = m
patched_map o (p ∷ ps) m = patched_map o ps (reach (bearers o p.name) p.bytes m)

unfoldable pub patched_maps : Object → List Patch → List Map → List Map
patched_maps o ps ms = map (patched_map o ps) ms

-- ---- a catalogue's maps are patched so, and nothing else

reach-all : (ys : List Symbol) (d : List ℕ) (ms : List Map) → patch_maps ys d ms ≡ map (reach ys d) ms
unfolding patch_maps
reach-all [] d [] = refl
reach-all [] d (m ∷ ms) = ap (λ l. m ∷ l) (reach-all [] d ms)
reach-all (y ∷ ys) d ms = refl

then-rest : (o : Object) (p : Patch) (ps : List Patch) (ms : List Map)
    → patched_maps o ps (map (reach (bearers o p.name) p.bytes) ms) ≡ patched_maps o (p ∷ ps) ms
unfolding patched_maps patched_map
then-rest o p ps [] = refl
then-rest o p ps (m ∷ ms) = ap (λ l. patched_map o ps (reach (bearers o p.name) p.bytes m) ∷ l) (then-rest o p ps ms)

pub none-patched : (o : Object) (ms : List Map) → patched_maps o [] ms ≡ ms
unfolding patched_maps patched_map
none-patched o [] = refl
none-patched o (m ∷ ms) = ap (λ l. m ∷ l) (none-patched o ms)

pub maps-patched : (o : Object) (ps : List Patch) (c : Catalogue) → patched o ps c ≡ with_maps c (patched_maps o ps c.maps)
unfolding patched with_maps
maps-patched o [] c = ap (with_maps c) (sym (none-patched o c.maps))
maps-patched o (p ∷ ps) c =
    maps-patched o ps (with_maps c (patch_maps (bearers o p.name) p.bytes c.maps))
    ∙ ap (λ ms. with_maps c (patched_maps o ps ms)) (reach-all (bearers o p.name) p.bytes c.maps)
    ∙ ap (with_maps c) (then-rest o p ps c.maps)

-- ---- one map

module _ (o : Object) where
  reach-section : (ys : List Symbol) (d : List ℕ) (m : Map) → (reach ys d m).section ≡ m.section
  unfolding patch_map
  reach-section [] d m = refl
  reach-section (y ∷ ys) d m = refl

  reach-length : (ys : List Symbol) (d : List ℕ) (m : Map) → length (map_own (reach ys d m)) ≡ length (map_own m)
  unfolding patch_map
  reach-length [] d m = refl
  reach-length (y ∷ ys) d m = go (lies_in m.section y.section)
    where
      go : (b : Bool) → length (cond b (sets m.own y.address d) m.own) ≡ length m.own
      go true = length-sets m.own y.address d
      go false = refl

  pub same-section : (ps : List Patch) (m : Map) → (patched_map o ps m).section ≡ m.section
  unfolding patched_map
  same-section [] m = refl
  same-section (p ∷ ps) m = same-section ps (reach (bearers o p.name) p.bytes m) ∙ reach-section (bearers o p.name) p.bytes m

  pub same_length : (ps : List Patch) (m : Map) → length (map_own (patched_map o ps m)) ≡ length (map_own m)
  unfolding patched_map
  same_length [] m = refl
  same_length (p ∷ ps) m = same_length ps (reach (bearers o p.name) p.bytes m) ∙ reach-length (bearers o p.name) p.bytes m

  -- one entry more
  pub patched-more : (ps : List Patch) (p : Patch) (m : Map) → patched_map o (ps ++ (p ∷ [])) m ≡ reach (bearers o p.name) p.bytes (patched_map o ps m)
  unfolding patched_map
  patched-more [] p m = refl
  patched-more (q ∷ ps) p m = patched-more ps p (reach (bearers o q.name) q.bytes m)
