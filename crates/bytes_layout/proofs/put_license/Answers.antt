-- `bytes_layout::put_license` meets its contract: the range that is the licence lies inside, and there is room for it.
use Rattle.std.specs.Prelude.{◌≡◌, ◌≤◌, length, take}
use Rattle.std.proofs.Common.{sym, ◌∙◌, arith, length-take-le}
use Rattle.bytes_layout.specs.Licence.{licence-gpl, licence-stands, licence-length, licence-placed}
use Rattle.bytes_layout.proofs.put_license.Goals as goal
use Rattle.bytes_layout.proofs.put_license.Goals.{In-None, After-data-data}

room : (c : After-data-data) → c.data-data.result.len ≤ length c.args.out.now
room c = let l = licence-length _ _ _ c.in-Some.e (sym c.in-Some.is ∙ c.requires.0) in omega (arith, l, c.requires.1, c.data-data.ensures.len)

front : (c : After-data-data) → length (take c.data-data.result.len c.args.out.now) ≡ c.data-data.result.len
front c = length-take-le c.data-data.result.len c.args.out.now (room c)

pub slice_bounds-copy_span-end : goal.slice_bounds-copy_span-end
slice_bounds-copy_span-end c = room (goal.at.slice_bounds-copy_span-end c).After-data-data

pub slice_bounds-copy_span-end-in-Some : goal.slice_bounds-copy_span-end-in-Some
slice_bounds-copy_span-end-in-Some c = sym (front (goal.at.slice_bounds-copy_span-end-in-Some c).After-data-data)

pub copy_span-requires : goal.copy_span-requires
copy_span-requires c =
    let n = c.data-data.ensures in
    (rw (n.lent, n.gap, n.at, n.len) (licence-placed _ _ _ c.in-Some.e (sym c.in-Some.is ∙ c.requires.0) c.args.object.readable).0, front (goal.at.copy_span-requires c).After-data-data)

room-gpl : (c : In-None) → 3 ≤ length c.args.out.now
room-gpl c = rw (licence-gpl _ _ _ (sym c.in-None.is ∙ c.requires.0)) at c.requires.1

pub slice_bounds-copy_from_slice-end : goal.slice_bounds-copy_from_slice-end
slice_bounds-copy_from_slice-end c = room-gpl (goal.at.slice_bounds-copy_from_slice-end c).In-None

pub slice_bounds-copy_from_slice-end-in-None : goal.slice_bounds-copy_from_slice-end-in-None
slice_bounds-copy_from_slice-end-in-None c = sym (length-take-le 3 c.args.out.now (room-gpl (goal.at.slice_bounds-copy_from_slice-end-in-None c).In-None))

pub copy_from_slice-requires : goal.copy_from_slice-requires
copy_from_slice-requires c = length-take-le 3 c.args.out.now (room-gpl (goal.at.copy_from_slice-requires c).In-None)

pub returns-in-Some : goal.returns-in-Some
returns-in-Some c =
    let e = sym c.in-Some.is ∙ c.requires.0 in
    let n = c.data-data.ensures in
    let x = c.in-Some.e in
    (n.len ∙ sym (licence-length _ _ _ x e), rw (c.copy_span.ensures, licence-stands _ _ _ x e, n.lent, n.gap, n.at, n.len))

pub returns-in-None : goal.returns-in-None
returns-in-None c =
    let e = licence-gpl _ _ _ (sym c.in-None.is ∙ c.requires.0) in
    (rw e, rw (e, c.copy_from_slice.ensures.after))
