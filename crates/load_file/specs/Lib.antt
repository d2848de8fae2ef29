-- What the contracts of `load_file` and the proofs above it cite.
pub mod Files
