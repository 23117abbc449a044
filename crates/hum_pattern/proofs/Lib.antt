pub mod OnLiterals
pub mod Reading
pub mod Remembered
mod Barline
mod Exits
