-- The laws that number 11 and the walk of a text section go by.
pub mod Group
pub mod Again
pub mod Ahead
pub mod Search
pub mod Kept
pub mod Parsed
pub mod Walking
