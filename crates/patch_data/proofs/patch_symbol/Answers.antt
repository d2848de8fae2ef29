-- `patch_data::patch_symbol` meets its contract: the row of the symbol's map says where its bytes begin.
use mathlib.Core.Path.{◌≡◌, sym, ap, ◌∙◌}
use mathlib.Core.List.{List, ◌++◌}
use Prim.Native.Nat.{ℕ, ◌+◌, ◌-◌, ◌*◌, ◌≤◌}
use native.Mathlib.Omega.{arith}
use lib.ListN.{length, get_or, take, drop}
use Rattle.std.proofs.Common.{length-take, length-drop}
use Rattle.lists.specs.Tab.{copied-whole}
use Rattle.records.specs.Of.{of}
use Rattle.patch_maps.specs.Found.{map_place_of, some-kept}
use Rattle.patch_data.specs.Region.{stored}
use Rattle.patch_data.proofs.patch_symbol.Goals as goal

pub returns : goal.returns
returns c =
    let a = c.args in
    let b = a.bytes.now in
    let m = some-kept _ _ (sym c.unwrap-place.ensures ∙ c.place_of.ensures) in
    let e : of map_place_of a.object.records a.by.now a.y - 1 ≡ c.unwrap-place.result = omega arith in
    let at = get_or a.rows.now (27 * c.unwrap-place.result + 5) 0 - a.own + a.y.address in
    let room : at + length a.source.now ≤ length b = rw e at c.requires.room in
    let copied = c.copy.ensures ∙ copied-whole a.source.now _ (rw (length-take, length-drop) (omega (arith, room))) in
    ap (λ (ys : List ℕ). take at b ++ (ys ++ drop (at + length a.source.now - at) (drop at b))) copied
    ∙ rw e (stored b a.source.now at room)
