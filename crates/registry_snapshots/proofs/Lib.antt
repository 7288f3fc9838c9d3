pub mod Changes
pub mod SeatLemmas
mod Gatherings
