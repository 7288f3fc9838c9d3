pub mod NameTables
pub mod StartTables
pub mod Listening
pub mod NameIndexes
pub mod ConnectionTables
