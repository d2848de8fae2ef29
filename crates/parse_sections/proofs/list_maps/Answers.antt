-- `parse_sections::list_maps` meets its contract: by the kind.
use Rattle.parse_sections.specs.Lists.{map_numbers_of}
use Rattle.parse_sections.specs.Kinds.{other-kind, data-kind}
use Rattle.parse_sections.proofs.OtherKinds.{not-kind, data-tags}
use Rattle.model.specs.Contents.{is_data}
use Rattle.model.specs.declared.EbpfSectionKind.{EbpfSectionKind as Kind}
use Rattle.std.proofs.lemmas.Grind.{common_steps}
use native.Mathlib.Omega.{arith}
use mathlib.Core.List.{[], ◌∷◌}
use mathlib.Core.Bool.{false}
use mathlib.Core.Path.{◌≡◌, refl}
use Rattle.parse_sections.proofs.list_maps.Goals as goal

pub returns-in-Maps : goal.returns-in-Maps
unfolding map_numbers_of
returns-in-Maps c = rw c.in-Maps.is c.map_numbers.ensures

pub returns-in-Bss : goal.returns-in-Bss
unfolding map_numbers_of
returns-in-Bss c =
    let a = c.args in
    let k = data-tags a.kind c.in-Bss.is in
    rw (other-kind (6 ∷ 4 ∷ 5 ∷ []) Kind.Maps a.kind tt k, data-kind a.kind k, c.map_number.ensures) (refl, grind (arith, common_steps))

pub returns-in_default : goal.returns-in_default
unfolding map_numbers_of
returns-in_default c =
    let a = c.args in
    let no : is_data a.kind ≡ false = rw (not-kind Kind.Bss a.kind c.in_default.not-Bss, not-kind Kind.Data a.kind c.in_default.not-Data, not-kind Kind.Rodata a.kind c.in_default.not-Rodata) in
    rw (not-kind Kind.Maps a.kind c.in_default.not-Maps, no) (refl, refl)
