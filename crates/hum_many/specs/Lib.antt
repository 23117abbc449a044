-- What is said of many cases.
pub mod Ends
pub mod Cases
pub mod Answers
pub mod Many
pub mod Talks
