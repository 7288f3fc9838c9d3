pub mod Turns
pub mod Runs
pub mod Outputs
pub mod GrantedRuns
pub mod Cuts
pub mod Streams
pub mod Logins
