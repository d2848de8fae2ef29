-- `load_decision::decide_room` meets its contract.
use Rattle.std.specs.Prelude.{◌≡◌, length, Err, Ok}
use Rattle.std.proofs.Common.{sym, ap, ◌∙◌}
use Rattle.model.specs.Lent.{image_of, fits_in}
use Rattle.records.specs.Of.{of}
use Rattle.accepted_numbers.specs.Numbers.{targeted}
use Rattle.bytes_layout.specs.Parts.{catalogue}
use Rattle.load_image.specs.Tables.{relocations-are, count-sections, count-programs, count-functions, count-maps}
use Rattle.load_decision.specs.Decided.{Planned, Fitted, relocated}
use Rattle.load_decision.specs.Room.{fits-by}
use Rattle.load_decision.proofs.decide_room.Goals as goal
use Rattle.load_decision.proofs.decide_room.Goals.{After-fits}

pub put_relocation_rows-count-requires : goal.put_relocation_rows-count-requires
put_relocation_rows-count-requires c = (targeted _ _ _ c.args.accepted.accepted, c.requires.0, c.requires.1)

-- how many relocations there are, and whether all of it fits
counted : (c : After-fits) → c.put_relocation_rows-count.result ≡ length (of catalogue c.args.accepted.object.records).relocations
counted c = let a = c.args.accepted in c.put_relocation_rows-count.ensures.0 ∙ ap length (relocations-are a.object.readable a.accepted)

fitting : (c : After-fits) → fits_in c.args.room (image_of (of catalogue c.args.accepted.object.records)) ≡ c.fits.result
fitting c =
    let a = c.args.accepted in
    let r = a.object.readable in
    fits-by c.args.room (of catalogue a.object.records)
    ∙ rw (count-sections _ _ _ a.held.sections, count-programs r a.accepted a.held.programs, count-functions r a.held.functions, count-maps r a.held.maps, ← counted c, ← c.layout-places.ensures.end) (sym c.fits.ensures)

pub returns-then-not-fits : goal.returns-then-not-fits
returns-then-not-fits c =
    let a = c.args.accepted in
    let k = c.put_relocation_rows-count.ensures in
    let g : of Fitted a.object.records c.args.room (Err c.without_place.result) = (c.without_place.ensures, fitting (goal.at.returns-then-not-fits c).After-fits ∙ c.if-not-fits.true) in
    (g, relocated a.object.readable a.accepted c.args.room _ _ _ (Err c.without_place.result) g c.requires.2 k.0 k.2)

pub returns : goal.returns
returns c =
    let a = c.args.accepted in
    let k = c.put_relocation_rows-count.ensures in
    let g : of Planned a.object.records c.args.room (record { relocations = c.put_relocation_rows-count.result; places = c.layout-places.result }) =
    record { fit = fitting (goal.at.returns c).After-fits ∙ c.if-not-fits.false; count = counted (goal.at.returns c).After-fits; at = c.layout-places.ensures }
    in
    (g, relocated a.object.readable a.accepted c.args.room _ _ _ (Ok (record { relocations = c.put_relocation_rows-count.result; places = c.layout-places.result })) g c.requires.2 k.0 k.2)
