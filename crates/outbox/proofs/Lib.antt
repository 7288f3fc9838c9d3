pub mod Giving
pub mod Grouping
pub mod Lists
pub mod Picks
pub mod Rules
