-- A patch list as it is lent, and what refuses its entries.
pub mod Entries
pub mod Checks
pub mod Lists
