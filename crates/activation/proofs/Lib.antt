pub mod Rounds
pub mod CallLists
pub mod Settlings
pub mod Following
pub mod Bounds
