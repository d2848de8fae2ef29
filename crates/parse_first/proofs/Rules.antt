-- What the functions' proofs rest on.
use Rattle.records.specs.Records.{step_end}
use Rattle.parse_first.specs.Named.{named_none}
use Rattle.parse_first.specs.Targets.{next-end, filled_none, filled-all, reaches-untargeted}
use Rattle.parse_first.specs.LicenceVersion.{licence-four, licence-parsed, version-four, version-parsed}
use Rattle.parse_first.proofs.NamedLaws.{made-of-named, number-below}
use Rattle.parse_first.proofs.LicenceVersionLaws.{version-by-number, version-kept}

pub ruleset walk = (step_end, named_none)

pub ruleset filling = (next-end, filled_none, filled-all)

pub ruleset checks = (reaches-untargeted, licence-four, licence-parsed, version-four, version-parsed)

pub ruleset named = (made-of-named, number-below)

pub ruleset version = (version-by-number, version-kept)
