pub mod Publications
pub mod Copies
pub mod Pending
pub mod Seating
