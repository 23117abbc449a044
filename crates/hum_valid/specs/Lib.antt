pub mod Records
pub mod Written
pub mod Trees
