pub mod Bodies
pub mod Errors
pub mod Monitors
pub mod Sound
pub mod TooMany
pub mod Written
pub mod SoleTexts
