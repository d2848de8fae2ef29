-- The laws that rest on which section of a name counts.
pub mod NamedLaws
pub mod LicenceVersionLaws
pub mod Rules
