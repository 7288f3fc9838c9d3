pub mod Readings
pub mod Happenings
pub mod Sessions
pub mod Parts
pub mod Transfers
pub mod Statuses
pub mod Addresses
pub mod Heads
