pub mod Runs
pub mod QueueRows
pub mod RoutingRows
pub mod ServiceRows
pub mod MonitorRows
pub mod RouterRows
pub mod NameRows
pub mod LimitRows
