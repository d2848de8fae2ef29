-- A run of the stream, copied a block at a time.
use Rattle.std.specs.Prelude.{◌≡◌, List, ◌++◌, ℕ, ◌+◌, ◌-◌, ◌≤◌, length, take, drop}
use Rattle.std.proofs.Common.{sym, ap, ◌∙◌, arith, take_at, drop-drop}
use Rattle.lists.specs.Part.{length_part}
use Rattle.lists.specs.Tab.{append-put}
use Rattle.model.specs.Bytes.{part}
use Rattle.stream.specs.declared.Run.{Run}
use Rattle.stream.specs.Stream.{bytes_at, length-bytes}
use Rattle.stream.specs.Laws.{bytes-append, take-bytes}
use Rattle.stream.specs.Run.{Turn}

-- the bytes that a turn takes
turn-bytes : (d : List ℕ) (gap q n : ℕ) (r : Run) (m : ℕ) → Turn d gap q n r m → part d r.at m ≡ bytes_at d gap q m
turn-bytes d gap q n r m t =
    sym (take_at (part d r.at m) (bytes_at d gap (q + m) (n - m)) m (length_part d r.at m t.inside))
    ∙ ap (take m) (sym t.piece)
    ∙ take-bytes d gap q n m t.most

-- one turn more, of a walk that has copied k bytes from p on over the front of t
pub copy_more : (d : List ℕ) (gap p k n m : ℕ) (r : Run) (t out ys : List ℕ) → Turn d gap (p + k) n r m → k + m ≤ length t
    → out ≡ bytes_at d gap p k ++ drop k t → ys ≡ take (r.at + m - r.at) (drop r.at d)
    → take k out ++ (ys ++ drop (k + m - k) (drop k out)) ≡ bytes_at d gap p (k + m) ++ drop (k + m) t
copy_more d gap p k n m r t out ys turn room before copied =
    let from : r.at + m - r.at ≡ m = omega arith in
    let to : k + m - k ≡ m = omega arith in
    let put = append-put (bytes_at d gap p k) (bytes_at d gap (p + k) m) t k (length-bytes d gap p k) (rw length-bytes room) in
    rw (copied, from, to, drop-drop, turn-bytes d gap (p + k) n r m turn, before, bytes-append) (rw length-bytes at put)
