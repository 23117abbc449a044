pub mod Denoted
pub mod Reading
pub mod Steps
pub mod Faults
