-- What the contracts of `rows_sections` cite.
pub mod Rows
