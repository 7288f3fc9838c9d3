pub mod Few
pub mod Near
