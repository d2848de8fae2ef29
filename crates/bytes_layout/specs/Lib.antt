-- The bytes of a lent catalogue by record numbers: what each part is, and where it begins.
pub mod Parts
pub mod Licence
pub mod Bounds
pub mod Held
pub mod Laid
pub mod Listed
