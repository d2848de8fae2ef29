-- What the contracts of `elf_records` cite.
pub mod Elf
pub mod Orders
