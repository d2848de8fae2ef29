-- Everything that is lent but the function table, filled or cleared.
pub mod Fills
