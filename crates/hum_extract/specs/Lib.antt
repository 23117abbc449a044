pub mod Choice
pub mod Extract
pub mod Kept
