pub mod Changes
pub mod Strings
pub mod Told
