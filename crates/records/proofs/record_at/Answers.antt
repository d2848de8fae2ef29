-- `records::record_at` meets its contract: a slice of the stream has as many bytes as were asked for.
use Rattle.stream.specs.Stream.{length-bytes}
use Rattle.records.proofs.record_at.Goals as goal

pub from_bytes-requires : goal.from_bytes-requires
from_bytes-requires g c = rw c.in-Some.ensures (length-bytes _ _ _ _)
