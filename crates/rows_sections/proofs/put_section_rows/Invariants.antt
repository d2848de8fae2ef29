use Rattle.std.proofs.Common.{◌≡◌, ◌++◌, ◌+◌, ◌*◌, ◌≤◌, length, take, drop}
use Rattle.model.specs.Bytes.{each}
use Rattle.records.specs.Of.{of}
use Rattle.rows_sections.specs.Rows.{section_rows, section_name_in}
use Rattle.rows_sections.proofs.put_section_rows.Given as goal

abbrev pub invariant-loop-k : goal.invariant-loop-k
invariant-loop-k l =
    record {
      short : l.place ≤ l.at + l.k * 4294967296;
      behind : l.place ≡ l.at + length (each (of section_name_in l.records) (take l.k l.numbers));
      rows : l.out ≡ of section_rows l.records l.at (take l.k l.numbers) ++ drop (l.k * 4) l.initial.out;
    }
