-- What a load of what was opened decides.
pub mod Opened
