-- `names::same` meets its contract: names of different lengths differ, and of one length `stands_at` compares them.
use Rattle.std.proofs.Common.{◌≡◌, sym, arith, length}
use Rattle.stream.specs.Stream.{bytes_at, length-bytes}
use Rattle.names.specs.Words.{same-lengths}
use Rattle.names.proofs.same.Goals as goal

pub returns-then-name-word : goal.returns-then-name-word
returns-then-name-word c =
    let n = c.args.name in
    let h : n.len ≡ length c.args.word.now → ⊥ = λ e. omega arith in
    sym (same-lengths c.args.word.now (bytes_at n.stream.bytes.now n.stream.gap n.at n.len) (rw length-bytes h))
