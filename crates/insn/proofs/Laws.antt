-- The laws that the check takes for the functions that name them.
use Rattle.std.proofs.lemmas.Int.{ints, to_z-of_z}
use Rattle.encoding.specs.Little.{little-two, little-four}
use Rattle.insn.specs.Stated.{stated-below, stated-read, stated-read-str, stated-above, rewrite-call, rewrite-other}
use Rattle.insn.specs.Reading.{left-some, left-none, read-inside, search-ends, search-meets, search-goes-on}
use Rattle.insn.proofs.Signed.{signed-two, signed-four}

-- an instruction's fields by their bytes
pub ruleset decoding = (to_z-of_z, signed-two, signed-four, little-two, little-four)

-- what a reader gives
pub ruleset reading = (left-some, left-none)

-- a search for a call, by what the reader gives
pub ruleset searching = (read-inside, search-ends, search-meets, search-goes-on)

-- what is stated for a helper's number, by the range that it is in
pub ruleset fallbacks = (ints, to_z-of_z, stated-below, stated-read, stated-read-str, stated-above)

-- an instruction after rewriting, by whether it calls a helper
pub ruleset rewriting = (to_z-of_z, rewrite-call, rewrite-other)
