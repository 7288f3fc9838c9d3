pub mod Writing
pub mod Orders
