pub mod PlaceLemmas
pub mod QueueLaws
pub mod QueueLemmas
pub mod WorkedQueues
