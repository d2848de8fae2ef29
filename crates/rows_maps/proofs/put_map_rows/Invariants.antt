use Rattle.std.proofs.Common.{◌≡◌, ◌++◌, ◌+◌, ◌*◌, ◌≤◌, length, take, drop}
use Rattle.model.specs.Bytes.{each}
use Rattle.records.specs.Of.{of}
use Rattle.rows_maps.specs.Rows.{map_rows, map_name_in, own_bytes_in}
use Rattle.rows_maps.proofs.put_map_rows.Given as goal

abbrev pub invariant-loop-k : goal.invariant-loop-k
invariant-loop-k l =
    record {
      short : l.place ≤ l.at + l.k * 4294967296;
      own-short : l.own_place ≤ l.own + l.k * 4294967296;
      behind : l.place ≡ l.at + length (each (of map_name_in l.object.records) (take l.k l.numbers));
      own-behind : l.own_place ≡ l.own + length (each (of own_bytes_in l.object.records) (take l.k l.numbers));
      rows : l.out ≡ of map_rows l.object.records l.at l.own (take l.k l.numbers) ++ drop (l.k * 27) l.initial.out;
    }
