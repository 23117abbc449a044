pub mod Extract
pub mod Cleave
pub mod Timebase
pub mod Options
