pub mod Carrying
pub mod Sockets
pub mod States
