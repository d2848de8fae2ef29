-- The bytes of a span.
use Rattle.std.specs.Prelude.{List, ℕ}
use Rattle.stream.specs.declared.span.Span.{Span}
use Rattle.stream.specs.Stream.{bytes_at}

abbrev pub bytes_of : Span → List ℕ
bytes_of s = bytes_at s.stream.bytes.now s.stream.gap s.at s.len
