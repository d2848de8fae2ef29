-- What is told of a place by where the letters stop, and of a name.
use Rattle.elf_names.specs.Stop.{stop-from, stop-within, stop-letter, stop-other, stop-same, name-long, name-cut, name-other, name-fine, name-size}
use Rattle.elf_names.specs.Told.{stopped-at, stopped-past}

pub ruleset stops = (stop-from, stop-within, stop-letter, stop-other, stop-same, stopped-at, stopped-past)

pub ruleset names = (stop-within, name-long, name-cut, name-other, name-fine, name-size)
