-- `elf_ident::field_is` meets its contract: the number's bytes are zeros but for the lowest.
use mathlib.Core.Path.{sym, ◌∙◌}
use native.Mathlib.Omega.{arith}
use Rattle.model.specs.ElfRefusals.{field_is}
use Rattle.elf_ident.specs.FirstBytes.{low_below, lone-byte, length-lone}
use Rattle.elf_ident.proofs.field_is.Goals as goal

pub bounds-s-low : goal.bounds-s-low
bounds-s-low c = let a = c.args in omega (arith, low_below a.order a.w c.requires.1)

pub slice_bounds-bytes_are-end : goal.slice_bounds-bytes_are-end
slice_bounds-bytes_are-end c = sym (length-lone c.args.w 8 c.low_place-low.result c.args.x c.requires.2)

pub bytes_are-requires : goal.bytes_are-requires
bytes_are-requires c =
    omega (arith, length-lone c.args.w 8 c.low_place-low.result c.args.x c.requires.2)

pub returns : goal.returns
unfolding field_is
returns c =
    let a = c.args in
    let k = c.low_place-low in
    c.bytes_are.ensures
    ∙ rw
    (length-lone a.w 8 k.result a.x c.requires.2, k.ensures, lone-byte a.order a.w 8 a.x c.requires.1 c.requires.2 (omega arith))
