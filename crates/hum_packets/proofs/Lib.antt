pub mod Fronts
pub mod Feeding
pub mod Stepping
pub mod Cutting
pub mod Backwards
