-- `load_image::fill_sections` meets its contract: the rows are stored, and what stands behind them is cleared.
use Rattle.std.proofs.Common.{ap, ◌∙◌, ◌*◌, arith}
use Rattle.records.specs.Of.{of}
use Rattle.bytes_layout.specs.Parts.{catalogue}
use Rattle.bytes_layout.specs.Held.{parts-inside}
use Rattle.load_image.specs.Filled.{filled-behind}
use Rattle.load_image.specs.Tables.{count-sections, long-sections, rows-of-sections}
use Rattle.load_image.proofs.fill_sections.Goals as goal

pub put_section_rows-requires : goal.put_section_rows-requires
put_section_rows-requires c =
    let at = c.requires.2 in
    let i = parts-inside (of catalogue c.args.records) in
    (omega (arith, c.requires.1), omega (arith, at, i.sections), c.requires.3)

pub returns : goal.returns
returns c =
    let at = c.requires.2 in
    filled-behind _ c.args.out.now _ _ _ (long-sections _ ∙ ap (λ n. n * 4) (count-sections _ _ _ c.requires.0)) c.requires.3
    (c.put_section_rows.ensures ∙ rw (rows-of-sections _ _ _ c.requires.0 _ at.sections)) (c.fill.ensures.after (λ y e. e))
