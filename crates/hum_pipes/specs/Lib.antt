pub mod Piped
pub mod Stages
pub mod Merges
