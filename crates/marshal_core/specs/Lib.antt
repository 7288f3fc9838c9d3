pub mod Types
pub mod Signatures
pub mod Faults
pub mod Values
pub mod Spelling
pub mod TextFaults
pub mod Reading
pub mod Laws
