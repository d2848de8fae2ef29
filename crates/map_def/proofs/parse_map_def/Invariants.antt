use Rattle.std.proofs.Common.{◌≡◌, ℕ, ◌<◌, length, get_or}
use Rattle.stream.specs.Spans.{bytes_of}
use Rattle.map_def.specs.Record.{word_of}
use Rattle.map_def.proofs.parse_map_def.Given as goal

abbrev pub invariant-loop-k : goal.invariant-loop-k
invariant-loop-k l = (length l.words ≡ 7) × ((k : ℕ) → k < l.k → get_or l.words k 0 ≡ word_of (bytes_of l.bytes) k)
