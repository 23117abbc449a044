pub mod Meaning
pub mod Searching
pub mod Text
