use Rattle.std.proofs.Common.{◌∙◌}
use Rattle.license.proofs.Walk.{goes_on}
use Rattle.license.proofs.parse_license.Goals as goal

pub loop-preserved : goal.loop-preserved
loop-preserved c = goes_on c.loop.invariant c.skip-run.result (λ e. c.if-byte-eq0.false (c.byte.ensures ∙ e)) c.skip-run.ensures
