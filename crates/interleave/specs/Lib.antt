pub mod Logs
pub mod Playing
pub mod Stepping
