-- What the contracts of `rows_numbers` cite.
pub mod Flat
