use Rattle.std.proofs.Common.{◌≡◌, ◌+◌, length}
use Rattle.model.specs.Bytes.{same}
use Rattle.stream.specs.Stream.{bytes_at}
use Rattle.stream.specs.Run.{run_at}
use Rattle.names.specs.Words.{word_rest}
use Rattle.names.proofs.stands_apart.Given as goal

abbrev pub invariant-loop-x : goal.invariant-loop-x
invariant-loop-x l =
    let s = bytes_at l.name.stream.bytes.now l.name.stream.gap l.name.at (length l.word) in
    (l.run ≡ run_at l.name.stream.gap (l.name.at + l.x-index)) × (same l.word s ≡ word_rest l.word s l.x-index)
