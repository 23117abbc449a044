pub mod LineReading
pub mod Running
mod LineExamples
