-- `load_decision::decide_patches` meets its contract.
use Rattle.std.specs.Prelude.{◌≡◌, length}
use Rattle.std.proofs.Common.{sym, ap, ◌∙◌, arith}
use Rattle.records.specs.Of.{of}
use Rattle.object.specs.Checked.{checked_of}
use Rattle.patch_symbols.specs.Search.{by_name}
use Rattle.patch_checks.specs.Entries.{NamesFound, all_named}
use Rattle.patch_checks.specs.Checks.{Sited}
use Rattle.bytes_layout.specs.Held.{all-maps-fit}
use Rattle.load_image.specs.Tables.{maps-are}
use Rattle.load_decision.specs.Patches.{no-entries, sited-maps}
use borrow.Author.Rules.{rules}
use Rattle.load_decision.proofs.decide_patches.Goals as goal
use Rattle.load_decision.proofs.decide_patches.Goals.{After-maps_by_section}

pub returns-then-is_empty : goal.returns-then-is_empty
returns-then-is_empty c =
    let e : length c.args.list.entries.now ≡ 0 = grind arith in
    (sym (ap checked_of (no-entries _ _ _ _ e)), record { named = λ p. absurd (omega arith); sited = λ p. absurd (omega arith) })

pub maps_by_section-requires : goal.maps_by_section-requires
maps_by_section-requires c =
    let few = c.requires.2 in
    (omega arith, search rules, all-maps-fit c.args.object.readable c.requires.0 c.requires.1)

-- as many bytes of a name as the longest one of the list has
named : (c : After-maps_by_section) → of NamesFound c.args.object.records c.args.list.entries.now c.by_name.new.symbols
named c = all_named _ _ _ _ _ (c.by_name.ensures ∙ ap (of by_name c.args.object.records) c.longest_name-longest.ensures)

sited : (c : After-maps_by_section) → of Sited c.args.object.records c.args.maps.now c.maps_by_section.new.by
sited c = sited-maps c.args.object.readable c.requires.0 c.requires.1 _ _ c.maps_by_section.ensures

pub patch_refusal-requires : goal.patch_refusal-requires
patch_refusal-requires c = (sited (goal.at.patch_refusal-requires c).After-maps_by_section, named (goal.at.patch_refusal-requires c).After-maps_by_section)

pub returns : goal.returns
returns c =
    (c.patch_refusal.ensures ∙ rw (maps-are c.args.object.readable c.requires.1), record { named = λ p. named (goal.at.returns c).After-maps_by_section; sited = λ p. sited (goal.at.returns c).After-maps_by_section })
