pub mod Rewriting
pub mod Rewriter
