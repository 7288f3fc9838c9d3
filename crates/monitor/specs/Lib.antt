pub mod Monitors
pub mod Laws
