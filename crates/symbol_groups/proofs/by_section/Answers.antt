-- `symbol_groups::by_section` meets its contract: all numbers are counted up, then sorted.
use mathlib.Core.Path.{ap, ◌∙◌}
use Rattle.catalogue_laws.specs.Numbers.{up_to}
use Rattle.symbol_groups.specs.Group.{section-order}
use Rattle.symbol_groups.proofs.by_section.Goals as goal

pub returns : goal.returns
returns c =
    let a = c.args in
    section-order a.records.bytes.now a.records.index.now a.records.view _ _ (c.count_up.ensures ∙ ap up_to c.requires.1) c.sort.ensures
