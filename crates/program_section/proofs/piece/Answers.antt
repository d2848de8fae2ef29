-- `piece` meets its contract: the counts in the first 18 bytes and in the first m.
use Rattle.std.proofs.Common.{arith}
use Rattle.program_section.specs.Pieces.{until-take}
use Rattle.program_section.proofs.piece.Goals as goal

pub returns : goal.returns
returns c = let a = c.args in omega (arith, c.min.ensures, c.until.ensures, until-take 18 a.v.now, until-take a.m a.v.now)
