-- Sections by name, and relocations without a symbol, by number.
pub mod Named
pub mod Targets
pub mod LicenceVersion
