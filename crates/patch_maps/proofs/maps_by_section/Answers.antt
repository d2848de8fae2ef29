-- `patch_maps::maps_by_section` meets its contract: by holds the places of the maps from place k on.
use mathlib.Core.Path.{◌≡◌, sym, ap, ◌∙◌}
use mathlib.Core.List.{List, ◌++◌}
use Prim.Native.Nat.{ℕ, ◌+◌, ◌-◌, ◌<◌}
use native.Mathlib.Omega.{arith}
use lib.ListN.{get_or, drop}
use Rattle.std.proofs.Common.{length-take-le}
use Rattle.lists.specs.Tab.{tab, tab-const}
use Rattle.patch_maps.specs.Places.{map_home, home_below, map_places, places_from, places-none, places-more}
use Rattle.patch_maps.proofs.maps_by_section.Goals as goal
use Rattle.patch_maps.proofs.maps_by_section.Goals.{After-map_home-i}

pub loop-k-init : goal.loop-k-init
loop-k-init c =
    let a = c.args in
    let r = a.object.records in
    ap (λ (xs : List ℕ). xs ++ drop r.view.sections a.by.now)
    (c.fill.ensures.after (λ y e. e) ∙ sym (tab-const 0 _) ∙ ap (tab (λ i. 0)) (length-take-le r.view.sections a.by.now c.requires.1)
    ∙ sym (places-none r.bytes.now r.index.now r.view a.maps.now))

below : (c : After-map_home-i) → (let r = c.args.object.records in map_home r.bytes.now r.index.now r.view (get_or c.args.maps.now (c.loop-k.k - 1) 0) < r.view.sections)
below c = let r = c.args.object.records in home_below r.bytes.now r.index.now r.view _ (c.requires.2 (c.loop-k.k - 1) (omega arith))

pub bounds-by-i : goal.bounds-by-i
bounds-by-i c = rw c.map_home-i.ensures (omega (arith, below c))

pub loop-k-preserved : goal.loop-k-preserved
loop-k-preserved c =
    let a = c.args in
    let r = a.object.records in
    let l = c.loop-k in
    let e : l.k - 1 + 1 ≡ l.k = omega arith in
    rw (c.map_home-i.ensures, l.invariant, e)
    (rw e at (places-more r.bytes.now r.index.now r.view a.maps.now (l.k - 1) (drop r.view.sections a.by.now) (omega arith) (below c)))

pub returns : goal.returns
unfolding places_from map_places
returns c =
    let z : c.loop-k.k ≡ 0 = omega arith in
    c.loop-k.invariant ∙ rw z
