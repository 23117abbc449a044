pub mod Entries
pub mod Steps
pub mod Spelling
pub mod Written
pub mod Agreed
pub mod Said
pub mod Quiet
pub mod Trees
