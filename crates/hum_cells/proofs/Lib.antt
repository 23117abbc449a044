pub mod Framing
pub mod Headings
pub mod Keeping
pub mod Telling
