use mathlib.Core.Path.{◌≡◌}
use lib.ListN.{take, drop}
use Rattle.parse_maps.specs.Fault.{symbol_map_numbers}
use Rattle.parse_maps.proofs.map_numbers.Given as goal

abbrev pub invariant-loop-k : goal.invariant-loop-k
invariant-loop-k l = record {
  put : take l.k l.out ≡ symbol_map_numbers l.sections (take l.k l.group);
  rest : drop l.k l.out ≡ drop l.k l.initial.out;
}
