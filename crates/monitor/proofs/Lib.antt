pub mod Places
pub mod ShownLaws
