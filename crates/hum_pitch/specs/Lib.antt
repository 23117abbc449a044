pub mod Pitch
pub mod Given
pub mod Spelling
pub mod Intervals
