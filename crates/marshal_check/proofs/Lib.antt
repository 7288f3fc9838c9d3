pub mod TypeTexts
pub mod Recognized
pub mod Skipping
pub mod FreeElements
pub mod Checked
pub mod Splits
pub mod Shown
pub mod CheckedSteps
