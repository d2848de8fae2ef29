-- `rows_maps::data_row` meets its contract: a map's number names a section record, whose size is bounded.
use Rattle.records.specs.Maps.{section-below}
use Rattle.rows_maps.proofs.data_row.Goals as goal

pub parse_data_map_section-requires : goal.parse_data_map_section-requires
parse_data_map_section-requires c =
    let o = c.args.object in
    rw c.section-s.ensures (o.readable.section-size c.args.i (section-below o.records.view.sections c.args.n c.args.i c.requires))
