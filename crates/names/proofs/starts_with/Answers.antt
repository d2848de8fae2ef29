-- `names::starts_with` meets its contract: a name shorter than the word does not begin with it, and of a longer one only as many bytes as the word has count.
use Rattle.std.proofs.Common.{sym, arith}
use Rattle.stream.specs.Stream.{bytes_at, length-bytes}
use Rattle.names.specs.Words.{starts-short, starts-same}
use Rattle.names.proofs.starts_with.Goals as goal

pub returns-then-name-word : goal.returns-then-name-word
returns-then-name-word c =
    let n = c.args.name in
    sym (starts-short c.args.word.now (bytes_at n.stream.bytes.now n.stream.gap n.at n.len) (rw length-bytes (omega arith)))

pub returns : goal.returns
returns c =
    let n = c.args.name in
    rw (starts-same n.stream.bytes.now n.stream.gap c.args.word.now n.at n.len (omega arith)) c.stands_at.ensures
