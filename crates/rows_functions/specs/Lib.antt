-- What the contracts of `rows_functions` cite, and the laws of its rows.
pub mod Rows
pub mod Stored
pub mod Search
pub mod Placed
