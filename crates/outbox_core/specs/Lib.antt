pub mod Answers
pub mod Contents
pub mod Deliveries
pub mod Named
pub mod Signals
