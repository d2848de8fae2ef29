-- `load_image::fill_programs` meets its contract: the rows are stored, and what stands behind them is cleared.
use Rattle.std.proofs.Common.{ap, ◌∙◌, ◌*◌, arith}
use Rattle.records.specs.Of.{of}
use Rattle.bytes_layout.specs.Parts.{catalogue}
use Rattle.bytes_layout.specs.Held.{parts-inside}
use Rattle.load_image.specs.Filled.{filled-behind}
use Rattle.load_image.specs.Tables.{count-programs, long-programs, rows-of-programs}
use Rattle.load_image.proofs.fill_programs.Goals as goal

pub put_program_rows-requires : goal.put_program_rows-requires
put_program_rows-requires c =
    let at = c.requires.3 in
    let i = parts-inside (of catalogue c.args.object.records) in
    (omega (arith, c.requires.2), omega (arith, at, i.programs), c.requires.4)

pub returns : goal.returns
returns c =
    let r = c.args.object.readable in
    let at = c.requires.3 in
    filled-behind _ c.args.out.now _ _ _ (long-programs _ ∙ ap (λ n. n * 7) (count-programs r c.requires.0 c.requires.1)) c.requires.4
    (c.put_program_rows.ensures ∙ rw (rows-of-programs r c.requires.0 c.requires.1 _ at.programs)) (c.fill.ensures.after (λ y e. e))
