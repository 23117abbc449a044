pub mod Passages
pub mod Yank
pub mod Options
pub mod Marks
pub mod Memory
