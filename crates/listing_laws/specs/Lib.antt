-- What the proofs of `listed` and the programs above it cite.
pub mod Numbers
pub mod Loaded
pub mod Bound
pub mod Text
