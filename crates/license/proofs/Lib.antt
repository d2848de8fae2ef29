pub mod Walk
pub mod Version
