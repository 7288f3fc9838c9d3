pub mod HistoryLemmas
pub mod PlainLemmas
