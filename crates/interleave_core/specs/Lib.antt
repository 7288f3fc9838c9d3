pub mod Worlds
pub mod Promises
