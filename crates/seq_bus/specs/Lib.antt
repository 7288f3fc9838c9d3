pub mod PlainBus
pub mod PlainViews
