-- What the contracts of `object_view` cite.
pub mod NoIndex
pub mod Refused
