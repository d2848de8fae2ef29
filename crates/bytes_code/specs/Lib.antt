-- What the contracts of `bytes_code` cite, and the code after rewriting.
pub mod Code
pub mod Rewritten
