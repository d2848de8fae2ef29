-- `patch_maps::map_home` meets its contract: a section's own number, or the section that the symbol lies in.
use mathlib.Core.Path.{sym, ap, ◌∙◌}
use Rattle.symbol_section.specs.Owner.{home_of, home-by-record}
use Rattle.patch_maps.specs.Places.{source_home, map_home}
use Rattle.patch_maps.proofs.map_home.Goals as goal

pub returns-in-Section : goal.returns-in-Section
unfolding map_home
returns-in-Section c =
    let r = c.args.object.records in
    ap (source_home r.bytes.now r.index.now r.view) (sym c.in-Section.is ∙ c.map_source.ensures)

pub returns-in-Symbol : goal.returns-in-Symbol
unfolding map_home
returns-in-Symbol c =
    let r = c.args.object.records in
    c.section_of_symbol.ensures ∙ ap (home_of r.bytes.now r.index.now r.view) c.symbol.ensures ∙ sym (home-by-record r.bytes.now r.index.now r.view _)
    ∙ ap (source_home r.bytes.now r.index.now r.view) (sym c.in-Symbol.is ∙ c.map_source.ensures)
