pub mod Readers
pub mod Looks
pub mod Scene
pub mod Told
pub mod Nets
pub mod Traffic
pub mod Links
pub mod Writing
