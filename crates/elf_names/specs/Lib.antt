-- The lengths that are wanted, where names stop, what the functions tell, and laws of a memo.
pub mod Lengths
pub mod Stop
pub mod Told
pub mod Memo
