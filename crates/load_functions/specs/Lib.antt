-- What the load call answers, and laws of the program logic on lent slices.
pub mod Loads
pub mod Shared
pub mod Slot
