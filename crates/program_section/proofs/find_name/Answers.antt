-- `find_name` meets its contract: 40 bytes decide.
use Rattle.std.proofs.Common.{◌≡◌, ◌∙◌, sym, ap, subst, min, take, arith}
use Rattle.model.specs.ProgramName.{program_of}
use Rattle.stream.specs.Stream.{bytes_at}
use Rattle.stream.specs.Spans.{bytes_of}
use Rattle.program_section.specs.Short.{short-name}
use Rattle.program_section.specs.Found.{Tells}
use Rattle.program_section.specs.Table.{told_by}
use Rattle.program_section.specs.Copied.{take-bytes}
use Rattle.program_section.proofs.find_name.Goals as goal
use Rattle.program_section.proofs.find_name.Goals.{After-from_stream}

tells : (c : After-from_stream) → Tells (told_by c.from_stream.result) (program_of (bytes_of c.args.name))
tells c =
    let a = c.args.name in
    let d = a.stream.bytes.now in
    let s = c.span.ensures in
    let e : bytes_of c.span.result ≡ bytes_at d a.stream.gap a.at c.min.result = rw (s.stream, s.at, s.len) in
    let m : c.min.result ≡ min 40 a.len = omega (arith, c.min.ensures) in
    let front : bytes_of c.span.result ≡ take 40 (bytes_of a) =
    e ∙ ap (bytes_at d a.stream.gap a.at) m ∙ sym (take-bytes d a.stream.gap 40 a.len a.at)
    in
    subst (Tells (told_by c.from_stream.result)) (ap program_of front ∙ short-name (bytes_of a)) c.from_stream.ensures

pub returns-in_err-number : goal.returns-in_err-number
returns-in_err-number c = rw c.from_residual.ensures (rw c.in_err-number.was at (tells (goal.at.returns-in_err-number c).After-from_stream))

pub returns : goal.returns
returns c = rw c.row_variant.ensures (rw c.in_ok-number.was at (tells (goal.at.returns c).After-from_stream))
