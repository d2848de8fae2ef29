-- Laws of a record's bytes.
pub mod Record
