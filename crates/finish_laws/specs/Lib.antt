-- What patching and rewriting leave of a catalogue as it is lent.
pub mod Alike
