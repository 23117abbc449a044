pub mod Denoting
pub mod Faults
pub mod Polling
mod Nexting
mod Ahead
mod Opened
mod LineRead
