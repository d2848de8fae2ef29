-- `elf::index_relocations` meets its contract.
use Rattle.elf.specs.Asked.{relocations-ask, relocations-said}
use Rattle.elf.proofs.index_relocations.Goals as goal

pub place_relocations-requires : goal.place_relocations-requires
place_relocations-requires c =
    relocations-ask c.args.d.now c.args.l c.requires.0 _ c.requires.1

pub returns : goal.returns
returns c =
    relocations-said c.args.d.now c.args.l c.requires.0 _ c.place_relocations.ensures
