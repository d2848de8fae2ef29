-- `load_fill::fill` meets its contract.
use Rattle.std.proofs.Common.{◌*◌, sym, ap, ◌∙◌}
use Rattle.load_image.specs.Filled.{filled-behind}
use Rattle.load_image.specs.Tables.{long-relocations, count-sections, count-programs, count-maps}
use Rattle.load_fill.proofs.fill.Goals as goal

pub fill_sections-requires : goal.fill_sections-requires
fill_sections-requires c = let a = c.args.accepted in (a.held.sections, a.held.few-sections, c.requires.at, rw (count-sections _ _ _ a.held.sections) at c.requires.room-sections)

pub fill_programs-requires : goal.fill_programs-requires
fill_programs-requires c = let a = c.args.accepted in (a.accepted, a.held.programs, a.held.few-programs, c.requires.at, rw (count-programs a.object.readable a.accepted a.held.programs) at c.requires.room-programs)

pub fill_maps-requires : goal.fill_maps-requires
fill_maps-requires c = let a = c.args.accepted in (a.accepted, a.held.maps, a.held.few-maps, c.requires.at, rw (count-maps a.object.readable a.held.maps) at c.requires.room-maps)

pub returns : goal.returns
returns c =
    let g = c.requires in (
      c.fill_sections.ensures,
      c.fill_programs.ensures,
      c.fill_maps.ensures,
      filled-behind _ c.args.relocations.now _ _ _ (long-relocations _ ∙ ap (λ n. n * 4) (sym g.count)) g.room-relocations g.stored (c.fill.ensures.after (λ y e. e)),
      c.fill_bytes.ensures,
    )
