-- The tables made of what the sections list.
pub mod Parsed
