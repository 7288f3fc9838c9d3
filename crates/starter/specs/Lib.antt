pub mod Ends
pub mod MainSeats
pub mod Starting
pub mod States
