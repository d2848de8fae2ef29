-- What holds of the record numbers of an object that is not refused.
pub mod Numbers
