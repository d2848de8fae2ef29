-- `load_elf_numbers::load_flat_elf` meets its contract: no index of a file has more numbers than there is room for.
use Rattle.load_file.specs.Files.{index_most}
use Rattle.load_elf_numbers.proofs.load_flat_elf.Goals as goal

pub open_file-requires : goal.open_file-requires
open_file-requires c = (c.check.ensures, index_most c.args.d.now c.check.result c.check.ensures)
