-- Laws that several proofs cite.
pub mod Little
pub mod Laws
