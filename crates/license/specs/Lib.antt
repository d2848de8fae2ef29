-- Laws of the licence's and the version's bytes.
pub mod Zeros
pub mod Four
