-- Laws of an ELF file's parts: where they stand, its names, and the rules of 26 one by one.
pub mod Places
pub mod Names
pub mod Rules
pub mod All
