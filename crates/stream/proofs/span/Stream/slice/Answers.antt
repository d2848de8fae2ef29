-- `Stream::slice` meets its contract, by the law of bytes of one block.
use Rattle.std.specs.Prelude.{◌≡◌, List, ℕ, ◌+◌, ◌-◌, ◌%◌, ◌≤◌, IfSome, None, Option, Some}
use Rattle.std.specs.Slice.{IsGetRangeResult}
use Rattle.std.proofs.Common.{Bor, sym, ◌∙◌, arith}
use Rattle.stream.specs.Stream.{place, bytes_at}
use Rattle.stream.specs.Laws.{bytes-block}
use Rattle.stream.proofs.span.Stream.slice.Goals as goal

block : (d : List ℕ) (gap p n : ℕ) (s : Option (Bor (List ℕ))) → p % 508 + n ≤ 508 → IsGetRangeResult d (place gap p) (place gap p + n) s
    → IfSome s (λ x. x.now ≡ bytes_at d gap p n)
block d gap p n None f h = tt
block d gap p n (Some s) f h =
    let m : place gap p + n - place gap p ≡ n = omega arith in
    h.0.2 ∙ rw m (sym (bytes-block d gap p n f h.0.1))

pub returns : goal.returns
returns c =
    let a = c.args in
    block a.self.bytes.now a.self.gap a.p a.n c.get.result (omega arith) c.get.ensures.lookup
