-- The lent tables of a catalogue by record numbers.
pub mod Filled
pub mod Tables
