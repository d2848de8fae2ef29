-- The catalogue of an object, by record numbers.
pub mod Numbers
pub mod Fits
pub mod Function
