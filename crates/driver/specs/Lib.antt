pub mod Errors
pub mod Methods
pub mod Arguments
pub mod Calls
pub mod Answered
pub mod OwnMessages
pub mod Layout
