-- `Stream::u64_at` meets its contract: in one block the slice has the bytes, else std's number of the copied bytes is that of the model.
use Rattle.std.specs.Int.{w64}
use Rattle.std.proofs.Common.{ap, ◌∙◌, arith, length, take_all}
use Rattle.model.specs.Bytes.{little}
use Rattle.stream.specs.Stream.{length-bytes}
use Rattle.stream.specs.Fields.{le-little}
use Rattle.stream.proofs.span.Stream.u64_at.Goals as goal

pub eight-requires : goal.eight-requires
eight-requires c = rw (c.in-Some.ensures, length-bytes) (omega arith)

pub returns-in-Some : goal.returns-in-Some
returns-in-Some c = c.eight.ensures ∙ ap little (take_all 8 _ (rw (c.in-Some.ensures, length-bytes) (omega arith)) ∙ c.in-Some.ensures)

pub returns-in-None : goal.returns-in-None
returns-in-None c = c.from_le_bytes.ensures ∙ le-little w64 _ (ap length c.array.ensures ∙ length-bytes _ _ _ _) ∙ ap little c.array.ensures
