-- `stream::four` meets its contract: std's number of the bytes is that of the model.
use Rattle.std.specs.Int.{w32}
use Rattle.std.proofs.Common.{refl, sym, ap, ◌∙◌, arith}
use Rattle.model.specs.Bytes.{little}
use Rattle.stream.specs.Fields.{le-little, one_by_one, part-whole}
use Rattle.stream.proofs.four.Goals as goal

pub returns : goal.returns
unfolding one_by_one
returns c = c.from_le_bytes.ensures ∙ le-little w32 _ refl ∙ ap little (sym (part-whole c.args.d.now c.args.i 3 (omega arith)))
