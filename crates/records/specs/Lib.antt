-- What the contracts of `records` cite.
pub mod Records
pub mod Fields
pub mod View
pub mod Maps
pub mod Readable
pub mod Of
