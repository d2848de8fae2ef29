-- What the contracts of `elf_header` cite.
pub mod Headers
pub mod Used
