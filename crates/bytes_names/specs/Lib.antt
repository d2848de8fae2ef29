-- What the contracts of `bytes_names` cite, and the laws of copying.
pub mod Copy
pub mod Pieces
pub mod Inside
