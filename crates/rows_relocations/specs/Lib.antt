-- What the contracts of `rows_relocations` cite, and the laws of their stores.
pub mod Lasts
pub mod Rows
pub mod Stored
