-- `Stream::copy_bytes` meets its contract, by the law of bytes copied over a gap.
use Rattle.std.proofs.Common.{arith, length}
use Rattle.stream.specs.Run.{run-one, rest-fits, over-gap}
use Rattle.stream.proofs.span.Stream.copy_bytes.Goals as goal

pub copy_plain-requires : goal.copy_plain-requires
copy_plain-requires c =
    let a = c.args in
    omega (arith, run-one a.self.gap a.p c.run-run.result c.run-run.ensures a.self.narrow (omega arith))

pub skip-rest-requires : goal.skip-rest-requires
skip-rest-requires c =
    let a = c.args in
    omega (arith, c.min-m.ensures, run-one a.self.gap a.p c.run-run.result c.run-run.ensures a.self.narrow (omega arith))

pub copy_plain-requires-2 : goal.copy_plain-requires-2
copy_plain-requires-2 c =
    let a = c.args in
    rest-fits a.self.bytes.now c.copy_plain.new.t a.self.gap a.p (length a.t.now) c.min-m.result c.run-run.result c.skip-rest.result
    c.run-run.ensures c.skip-rest.ensures c.min-m.ensures (omega arith) c.copy_plain.ensures a.self.narrow (omega arith)

pub returns : goal.returns
returns c =
    let a = c.args in
    over-gap a.self.bytes.now c.copy_plain.new.t a.self.gap a.p (length a.t.now) c.min-m.result c.run-run.result c.skip-rest.result
    c.run-run.ensures c.skip-rest.ensures c.min-m.ensures (omega arith) c.copy_plain.ensures c.copy_plain-2.new.t
    c.copy_plain-2.ensures
