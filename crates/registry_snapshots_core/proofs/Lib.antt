pub mod Prefixes
pub mod Adding
pub mod Openings
pub mod Steps
