pub mod Flushings
pub mod PartLemmas
pub mod Reaching
