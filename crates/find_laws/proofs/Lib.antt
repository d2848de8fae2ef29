-- What the look-up in the function table of an accepted load finds.
pub mod Finds
