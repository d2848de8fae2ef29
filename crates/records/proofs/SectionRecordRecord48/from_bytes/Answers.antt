-- `<SectionRecord as Record<48>>::from_bytes` meets its contract: its fields are the numbers that stand in its bytes.
use Rattle.model.specs.Deposit.{section_record}
use Rattle.records.proofs.SectionRecordRecord48.from_bytes.Goals as goal

pub returns : goal.returns
unfolding section_record
returns c = cc
