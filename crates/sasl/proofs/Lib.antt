mod Splitting
mod Ends
mod Rows
pub mod Runs
mod Heard
mod InLine
mod Feeding
pub mod Outcomes
mod Counted
mod LetIn
mod KeyringLines
