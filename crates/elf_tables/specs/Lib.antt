-- What the contracts of `elf_tables` cite.
pub mod Walks
pub mod Numbered
pub mod Checked
pub mod Placed
pub mod Answered
