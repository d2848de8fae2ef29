-- What the contracts of `bytes_maps` cite.
pub mod Own
