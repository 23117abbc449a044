pub mod Chosen
pub mod Deciding
pub mod Following
pub mod Spread
pub mod Writing
