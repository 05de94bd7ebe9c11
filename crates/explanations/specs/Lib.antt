-- The modules of definitions of this crate.
pub mod Apart
pub mod Answers
pub mod Step
