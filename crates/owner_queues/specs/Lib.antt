pub mod Laws
pub mod Queues
pub mod Replies
pub mod Requests
