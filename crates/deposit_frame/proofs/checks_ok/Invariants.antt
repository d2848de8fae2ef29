use Rattle.std.proofs.Common.{◌≡◌}
use Rattle.model.specs.Deposit.{checks_ok}
use Rattle.deposit_frame.specs.Checks.{checks_from}
use Rattle.deposit_frame.proofs.checks_ok.Given as goal

abbrev pub invariant-loop-n : goal.invariant-loop-n
invariant-loop-n l = checks_ok l.blocks 1 l.d ≡ checks_from l.d l.blocks l.n
