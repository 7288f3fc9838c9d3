pub mod Flushing
pub mod Laws
pub mod Parts
