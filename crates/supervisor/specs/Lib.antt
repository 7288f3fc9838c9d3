pub mod Supervising
