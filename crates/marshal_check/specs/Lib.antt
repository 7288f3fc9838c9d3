pub mod Checking
pub mod SignatureTexts
pub mod Arguments
pub mod ArgumentViews
pub mod TypeViews
