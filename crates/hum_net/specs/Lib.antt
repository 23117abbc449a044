-- What is said of plans as nets, and of their runs.
pub mod Parts
pub mod Nodes
pub mod Runs
pub mod Scenes
pub mod Outcomes
pub mod Bundles
