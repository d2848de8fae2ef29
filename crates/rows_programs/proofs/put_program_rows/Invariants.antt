use Rattle.std.proofs.Common.{◌≡◌, ◌++◌, ◌+◌, ◌*◌, ◌≤◌, length, take, drop}
use Rattle.model.specs.Bytes.{each}
use Rattle.records.specs.Of.{of}
use Rattle.rows_programs.specs.Rows.{program_rows, program_name_in}
use Rattle.rows_programs.proofs.put_program_rows.Given as goal

abbrev pub invariant-loop-k : goal.invariant-loop-k
invariant-loop-k l =
    record {
      short : l.place ≤ l.at + l.k * 4294967296;
      behind : l.place ≡ l.at + length (each (of program_name_in l.object.records) (take l.k l.numbers));
      rows : l.out ≡ of program_rows l.object.records l.at (take l.k l.numbers) ++ drop (l.k * 7) l.initial.out;
    }
