-- What the contracts of `rows_maps` cite.
pub mod Rows
pub mod Maps
