pub mod Fronts
pub mod Good
pub mod States
pub mod Keeping
pub mod Against
pub mod Progress
pub mod Counting
pub mod Every
pub mod Faults
pub mod Writing
pub mod Picking
pub mod Ending
pub mod Places
pub mod Near
mod Examples
pub mod Marking
