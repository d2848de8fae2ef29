-- `parse_sections::list_others` meets its contract: one list after the other.
use mathlib.Core.Path.{refl}
use Rattle.parse_sections.specs.Candidates.{laid_behind}
use Rattle.parse_sections.proofs.list_others.Goals as goal

pub returns : goal.returns
returns c =
    let a = c.args in
    record {
      of-sections = laid_behind a.n.sections _ _ _ a.sections.now _ c.list_section.ensures.0 c.list_section.ensures.1 c.list_section.auto.out;
      of-programs = laid_behind a.n.programs _ _ _ a.programs.now _ c.list_programs.ensures.0 c.list_programs.ensures.1 c.list_programs.auto.out;
      of-functions = refl;
      of-maps = laid_behind a.n.maps _ _ _ a.maps.now _ c.list_maps.ensures.0 c.list_maps.ensures.1 c.list_maps.auto.out;
      of-license = refl;
      of-version = refl;
    }
