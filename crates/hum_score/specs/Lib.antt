pub mod Row
pub mod Spelling
pub mod Texts
pub mod Sign
pub mod Spines
pub mod Rules
pub mod Score
pub mod InOrder
