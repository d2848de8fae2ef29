-- The laws that the check takes for the functions that name them.
use Rattle.deposit_frame.specs.Checks.{weigh-more, checks-next, checks-none}
use Rattle.deposit_frame.specs.Columns.{total-more, rows-weigh}

-- the sum of a block: a column more, a byte more, and nine rows by their columns
pub ruleset sums = (total-more, weigh-more, rows-weigh)

-- the checks, block by block
pub ruleset checks = (checks-next, checks-none)
