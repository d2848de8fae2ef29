-- What the contracts of `elf_relocations` cite.
pub mod Written
pub mod Placing
