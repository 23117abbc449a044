pub mod Meaning
pub mod Treeing
pub mod Planning
pub mod Stepping
pub mod Building
pub mod Valid
pub mod Going
pub mod Bundling
