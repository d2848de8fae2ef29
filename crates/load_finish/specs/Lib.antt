-- The bytes of an accepted catalogue, patched and rewritten.
pub mod Finished
