pub mod Framing
pub mod FaultCodes
pub mod MessageBytes
pub mod Senders
pub mod Layout
pub mod Parts
pub mod FactsOf
