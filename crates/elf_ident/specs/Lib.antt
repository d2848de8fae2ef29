-- What the contracts of `elf_ident` cite.
pub mod FirstBytes
