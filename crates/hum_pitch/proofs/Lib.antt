pub mod Steps
pub mod Answering
pub mod Reading
pub mod Names
pub mod Tables
