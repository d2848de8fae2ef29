-- `elf_header::Sections::eight` meets its contract.
use mathlib.Core.Path.{◌∙◌}
use native.Mathlib.Omega.{arith}
use Rattle.elf_header.specs.Headers.{field_in_file}
use Rattle.elf_header.proofs.Sections.eight.Goals as goal

pub returns : goal.returns
returns c =
    let s = c.args.self in
    c.eight.ensures ∙ field_in_file s.bytes.now s.headers c.args.i c.args.at 8 (omega arith)
