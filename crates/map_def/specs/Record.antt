-- The bytes of a record by their places in the stream, and its words in a row.
use Rattle.std.specs.Prelude.{◌≡◌, refl, List, ℕ, zero, suc, ◌+◌, ◌*◌, ◌<◌, ◌≤◌, get_or}
use Rattle.std.proofs.Common.{ap, ◌∙◌, not-suc-le-zero, le_of_suc-le-suc, add-zero, arith}
use Rattle.std.proofs.Math.ListN.{get_or-eq_default}
use Rattle.lists.specs.Tab.{tab}
use Rattle.model.specs.Bytes.{u32}
use Rattle.model.specs.Contents.{words_of}
use Rattle.stream.specs.Stream.{byte_at, bytes_at, length-bytes}

pub get_or-bytes : (d : List ℕ) (gap p n k : ℕ) → k < n → get_or (bytes_at d gap p n) k 0 ≡ byte_at d gap (p + k)
unfolding bytes_at
get_or-bytes d gap p zero k h = absurd (not-suc-le-zero h)
get_or-bytes d gap p (suc n) zero h = rw add-zero
get_or-bytes d gap p (suc n) (suc k) h =
    let e : (p + 1) + k ≡ p + suc k = omega arith in
    get_or-bytes d gap (p + 1) n k (le_of_suc-le-suc h) ∙ ap (byte_at d gap) e

pub past_bytes : (d : List ℕ) (gap p n k : ℕ) → n ≤ k → get_or (bytes_at d gap p n) k 0 ≡ 0
past_bytes d gap p n k h = get_or-eq_default (bytes_at d gap p n) 0 (rw length-bytes h)

-- word k of a record
abbrev pub word_of : List ℕ → ℕ → ℕ
word_of r k = u32 r (k * 4)

pub words-tab : (r : List ℕ) → (words_of r).words ≡ tab (word_of r) 7
unfolding words_of tab
words-tab r = refl
