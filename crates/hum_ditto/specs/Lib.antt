pub mod Ditto
pub mod Held
pub mod Memory
