pub mod Slots
pub mod Taking
pub mod Ways
