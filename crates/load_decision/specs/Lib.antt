-- What a load decides before it fills the lent tables.
pub mod Outcomes
pub mod Room
pub mod Patches
pub mod Decided
