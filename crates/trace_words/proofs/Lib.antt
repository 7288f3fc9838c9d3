pub mod PartLemmas
pub mod RuleReading
