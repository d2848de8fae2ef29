-- What refuses a `map_def` section and its symbols.
pub mod Fault
pub mod Refused
