-- Number 2 by places, which the contracts of `deposit_rules` cite, and that it is the model's.
pub mod Parts
pub mod Rules
pub mod Names
pub mod Checked
pub mod Walk
