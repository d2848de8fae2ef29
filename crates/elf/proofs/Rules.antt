-- A walk over the sections, a step and what it looks at.
use Rattle.records.specs.Records.{step-record, step_end}
use Rattle.elf.specs.Btf.{btf-next, btf-none, btf-all}

pub ruleset walk = (step-record, step_end, btf-next, btf-none, btf-all)
