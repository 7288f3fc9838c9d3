pub mod Places
pub mod Rests
pub mod Steps
