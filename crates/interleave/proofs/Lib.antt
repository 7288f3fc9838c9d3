pub mod Stepping
pub mod PlayLemmas
pub mod RunLemmas
