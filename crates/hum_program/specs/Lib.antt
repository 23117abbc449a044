-- What is said of the program.
pub mod Line
pub mod Reads
pub mod Endings
pub mod Runs
pub mod Program
