-- What the contracts of `symbol_section` cite.
pub mod Owner
