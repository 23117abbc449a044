pub mod Heirs
pub mod Above
pub mod Spreading
pub mod Grid
pub mod Clock
pub mod Columns
pub mod Cleaved
pub mod Passages
