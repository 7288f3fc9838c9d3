pub mod Doing
pub mod Expiring
pub mod Happening
pub mod Keeping
pub mod Opening
pub mod States
