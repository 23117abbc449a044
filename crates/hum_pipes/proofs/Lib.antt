pub mod Places
pub mod OneTree
pub mod Moving
pub mod Under
pub mod Joining
pub mod Staging
pub mod Grouping
