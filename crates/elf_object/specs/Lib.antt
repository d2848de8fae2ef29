-- What an ELF file's view is, and what its index should hold. What follows where the index holds it is shown in proofs/.
pub mod Found
pub mod Inside
pub mod Ranges
pub mod Indexed
pub mod Named
pub mod Placed
pub mod Relocated
pub mod Sections
pub mod Symbols
pub mod Parts
