-- Lemmas of this crate's proofs.
pub mod Zeros
