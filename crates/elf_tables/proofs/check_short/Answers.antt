-- `elf_tables::check_short` meets its contract.
use mathlib.Core.Path.{◌≡◌, ap, ◌∙◌}
use Rattle.model.specs.Elf.{file_order}
use Rattle.elf_ident.specs.FirstBytes.{first_bytes_ok}
use Rattle.elf_tables.specs.Answered.{checked-short}
use Rattle.elf_tables.proofs.check_short.Goals as goal
use Rattle.elf_tables.proofs.check_short.Goals.{After-first_bytes_ok}

first-bytes : (c : After-first_bytes_ok) →
    let d = c.args.d.now in
    c.first_bytes_ok.result ≡ first_bytes_ok d (file_order d)
first-bytes c = c.first_bytes_ok.ensures ∙ ap (first_bytes_ok c.args.d.now) c.file_order.ensures

pub returns-then-first_bytes_ok : goal.returns-then-first_bytes_ok
returns-then-first_bytes_ok c =
    checked-short c.args.d.now c.requires ∙ rw (← first-bytes (goal.at.returns-then-first_bytes_ok c).After-first_bytes_ok, c.if-first_bytes_ok.true, c.without_place.ensures)

pub returns-else-first_bytes_ok : goal.returns-else-first_bytes_ok
returns-else-first_bytes_ok c =
    checked-short c.args.d.now c.requires ∙ rw (← first-bytes (goal.at.returns-else-first_bytes_ok c).After-first_bytes_ok, c.if-first_bytes_ok.false, c.without_place-else-first_bytes_ok.ensures)
