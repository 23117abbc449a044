pub mod Puts
pub mod Wanted
