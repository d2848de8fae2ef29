-- The layout of a file that can be read.
pub mod Layout
