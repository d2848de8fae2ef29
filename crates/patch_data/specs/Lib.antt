-- The maps of a catalogue once a patch list has acted, and their own bytes as they are lent.
pub mod Patched
pub mod Region
pub mod Alone
pub mod Acts
pub mod Ready
