-- `names::stands_apart` meets its contract: the run stands at byte `x-index`, and the whole comparison is what is left of it there (`word_rest`).
use Rattle.std.proofs.Common.{◌≡◌, ◌+◌, sym, ◌∙◌, arith, length, get_or}
use Rattle.stream.specs.Stream.{bytes_at, length-bytes}
use Rattle.stream.specs.Laws.{get_or-bytes}
use Rattle.stream.specs.Run.{run-byte, run-next, run-one}
use Rattle.names.specs.Words.{rest-agrees, rest-differs, rest_end}
use Rattle.names.proofs.stands_apart.Goals as goal
use Rattle.names.proofs.stands_apart.Goals.{After-byte}

-- the byte that was read
read : (c : After-byte)
    → (let n = c.args.name in
    c.byte.result ≡ get_or (bytes_at n.stream.bytes.now n.stream.gap n.at (length c.args.word.now)) c.loop-x.x-index 0)
read c =
    let n = c.args.name in
    c.byte.ensures
    ∙ run-byte n.stream.bytes.now n.stream.gap (n.at + c.loop-x.x-index) c.loop-x.run c.loop-x.invariant.0
    ∙ sym (get_or-bytes n.stream.bytes.now n.stream.gap n.at (length c.args.word.now) c.loop-x.x-index c.loop-x-test.true)

pub returns-then-byte-x : goal.returns-then-byte-x
returns-then-byte-x c =
    let n = c.args.name in
    sym
    (c.loop-x.invariant.1
    ∙ rest-differs c.args.word.now _ (length-bytes n.stream.bytes.now n.stream.gap n.at _) c.loop-x.x-index c.loop-x-test.true
    (rw (sym (read (goal.at.returns-then-byte-x c).After-byte)) c.if-byte-x.true))

pub skip-run-requires : goal.skip-run-requires
skip-run-requires c =
    let n = c.args.name in
    omega (arith, run-one n.stream.gap (n.at + c.loop-x.x-index) c.loop-x.run c.loop-x.invariant.0 n.stream.narrow (omega arith))

pub loop-x-preserved : goal.loop-x-preserved
loop-x-preserved c =
    let n = c.args.name in (
      c.skip-run.ensures ∙ run-next n.stream.gap n.at c.loop-x.x-index c.loop-x.run c.loop-x.invariant.0,
      c.loop-x.invariant.1
          ∙ rest-agrees c.args.word.now _ (length-bytes n.stream.bytes.now n.stream.gap n.at _) c.loop-x.x-index c.loop-x-test.true
          (sym (read (goal.at.loop-x-preserved c).After-byte) ∙ c.if-byte-x.false),
    )

pub returns : goal.returns
returns c =
    let n = c.args.name in
    sym (c.loop-x.invariant.1 ∙ rest_end c.args.word.now _ (length-bytes n.stream.bytes.now n.stream.gap n.at _) c.loop-x.x-index c.loop-x-test.false)
