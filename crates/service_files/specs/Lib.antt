pub mod Faults
pub mod ServiceFiles
pub mod Words
pub mod Lines
pub mod Readings
pub mod WholeFiles
