pub mod Copies
pub mod Serving
