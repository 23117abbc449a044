pub mod Above
pub mod Keeping
pub mod Nearest
pub mod Passing
pub mod Steps
pub mod Tokens
pub mod Whole
