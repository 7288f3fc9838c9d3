pub mod Faults
pub mod Plain
mod Letters
