pub mod Lists
pub mod PlaceIndexLemmas
pub mod SetLemmas
pub mod EntryLemmas
pub mod IndexLemmas
pub mod NearLemmas
pub mod CollectLemmas
pub mod LawProofs
