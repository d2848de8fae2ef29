-- The symbols that bear a name.
pub mod Bearers
pub mod Search
pub mod Long
