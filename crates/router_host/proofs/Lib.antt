pub mod Doings
pub mod Expirings
pub mod Reading
