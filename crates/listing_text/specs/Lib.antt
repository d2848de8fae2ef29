-- What the contracts of `listing_text` cite, and the laws of text that is laid.
pub mod Spans
pub mod Variants
pub mod Flat
pub mod Rows
pub mod Lines
