pub mod Meaning
pub mod Seen
