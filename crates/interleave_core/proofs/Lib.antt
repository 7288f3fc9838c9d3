pub mod Beginnings
pub mod SeenLists
pub mod ToldLemmas
pub mod Keeping
pub mod Schedules
