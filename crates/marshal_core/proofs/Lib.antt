pub mod Views
pub mod Results
pub mod TypesLoop
pub mod TypeSteps
pub mod TypesAgain
pub mod TypesTaken
pub mod StringFaults
pub mod Codes
