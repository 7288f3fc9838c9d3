pub mod Settlings
pub mod Batches
