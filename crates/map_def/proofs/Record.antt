-- A record's bytes and words, as std reads them.
use Rattle.std.proofs.Common.{◌≡◌, List, [], ◌∷◌, ℕ, ◌+◌, ◌<◌, ◌≤◌, get_or, w32, length, sym, ap, ◌∙◌, arith}
use Rattle.std.specs.Int.{from_le_bytes}
use Rattle.encoding.specs.Little.{little-four}
use Rattle.lists.specs.Tab.{is-tab}
use Rattle.model.specs.declared.BpfMapDef.{BpfMapDef}
use Rattle.model.specs.Bytes.{u32, little}
use Rattle.model.specs.Contents.{words_of}
use Rattle.stream.specs.Stream.{byte_at, bytes_at}
use Rattle.map_def.specs.Record.{word_of, get_or-bytes, past_bytes, words-tab}

module _ (d : List ℕ) (gap p n k : ℕ) where
  pub byte : k < n → get_or (bytes_at d gap p n) k 0 ≡ byte_at d gap (p + k)
  byte h = get_or-bytes d gap p n k h

  pub past : n ≤ k → get_or (bytes_at d gap p n) k 0 ≡ 0
  past h = past_bytes d gap p n k h

pub four : (r : List ℕ) (p : ℕ) → u32 r p ≡ from_le_bytes w32 (get_or r p 0 ∷ get_or r (p + 1) 0 ∷ get_or r (p + 2) 0 ∷ get_or r (p + 3) 0 ∷ [])
unfolding little
four r p = little-four r p ∙ omega arith

pub table : (r ws : List ℕ) → length ws ≡ 7 → ((k : ℕ) → k < 7 → get_or ws k 0 ≡ word_of r k) → ◌≡◌ {A = BpfMapDef} (record { words = ws }) (words_of r)
table r ws l h = ap (λ (t : List ℕ). record { words = t }) (is-tab ws (word_of r) 7 0 l h ∙ sym (words-tab r))
