-- `records::head` meets its contract: its fields are the numbers that were read.
use Rattle.records.specs.Records.{head_at}
use Rattle.records.specs.Fields.{head-fields}
use Rattle.records.proofs.head.Goals as goal

pub returns : goal.returns
unfolding head_at
returns c = let a = c.args in cc (head-fields a.d.now 4)
