-- Which index stands for no section and no symbol: '0xFFFFFFFF none'.
use Rattle.std.specs.Prelude.{Bool, ℕ, eqb}

abbrev pub no_index : ℕ
no_index = 0xFFFFFFFF

abbrev pub is_none : ℕ → Bool
is_none n = eqb n no_index
