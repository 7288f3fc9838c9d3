pub mod Seats
pub mod Refusals
pub mod Settlings
pub mod Tallies
pub mod Openings
