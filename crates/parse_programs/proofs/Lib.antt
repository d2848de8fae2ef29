pub mod Fault
pub mod Programs
