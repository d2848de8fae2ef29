-- What the contracts of `elf` cite.
pub mod Names
pub mod Btf
pub mod Index
pub mod Opened
pub mod Asked
pub mod Told
