-- An opened object loaded, but for the function table.
pub mod Done
pub mod Core
