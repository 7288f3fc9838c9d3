pub mod Statuses
pub mod Streams
