-- What the contracts of `rows_programs` cite.
pub mod Rows
