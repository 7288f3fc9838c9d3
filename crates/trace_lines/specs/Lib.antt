pub mod Comparing
pub mod Heads
pub mod Texts
pub mod TextViews
pub mod Lines
pub mod LineViews
