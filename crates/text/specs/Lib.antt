-- Laws of text that is put together.
pub mod Decimals
pub mod Pushed
