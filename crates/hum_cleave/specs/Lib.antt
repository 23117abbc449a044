pub mod Columns
pub mod Tokens
pub mod Barlines
pub mod Cleave
