pub mod BodyLemmas
pub mod OpeningLemmas
