pub mod Holding
pub mod Coming
pub mod Talking
pub mod Reading
