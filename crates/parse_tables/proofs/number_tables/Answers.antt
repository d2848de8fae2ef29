-- `parse_tables::number_tables` meets its contract: one table after the other.
use Rattle.parse_tables.specs.Parsed.{tabled}
use Rattle.parse_sections.specs.Candidates.{candidates-inside}
use Rattle.catalogue_numbers.specs.Numbers.{section_numbers, program_numbers, function_numbers, map_numbers}
use Rattle.std.proofs.Common.{length-take-le}
use native.Mathlib.Omega.{arith}
use Rattle.parse_tables.proofs.number_tables.Goals as goal

pub table-requires : goal.table-requires
table-requires c =
    let q = c.requires in
    let l = length-take-le c.args.n.sections c.args.sections.now (candidates-inside q.0.of-sections) in
    omega (arith, l, q.0.few-sections, q.1)

pub table-requires-2 : goal.table-requires-2
table-requires-2 c =
    let q = c.requires in
    let l = length-take-le c.args.n.programs c.args.programs.now (candidates-inside q.0.of-programs) in
    omega (arith, l, c.table.auto.tmp, q.0.few-programs, q.1)

pub table-requires-3 : goal.table-requires-3
table-requires-3 c =
    let q = c.requires in
    let l = length-take-le c.args.n.functions c.args.functions.now (candidates-inside q.0.of-functions) in
    omega (arith, l, c.table-2.auto.tmp, c.table.auto.tmp, q.0.few-functions, q.1)

pub table-requires-4 : goal.table-requires-4
table-requires-4 c =
    let q = c.requires in
    let l = length-take-le c.args.n.maps c.args.maps.now (candidates-inside q.0.of-maps) in
    omega (arith, l, c.table-3.auto.tmp, c.table-2.auto.tmp, c.table.auto.tmp, q.0.few-maps, q.1)

pub returns : goal.returns
unfolding section_numbers program_numbers function_numbers map_numbers
returns c =
    let q = c.requires.0 in
    let ss = tabled _ _ c.table.result q.of-sections c.table.auto.numbers c.table.ensures.0 c.table.ensures.1 in
    let ps = tabled _ _ c.table-2.result q.of-programs c.table-2.auto.numbers c.table-2.ensures.0 c.table-2.ensures.1 in
    let fs = tabled _ _ c.table-3.result q.of-functions c.table-3.auto.numbers c.table-3.ensures.0 c.table-3.ensures.1 in
    let ms = tabled _ _ c.table-4.result q.of-maps c.table-4.auto.numbers c.table-4.ensures.0 c.table-4.ensures.1 in (
      λ k. record { sections = ss.count k; programs = ps.count k; functions = fs.count k; maps = ms.count k; license = q.of-license k; version = q.of-version k },
      record { of-sections = ss.front; of-programs = ps.front; of-functions = fs.front; of-maps = ms.front },
    )
