-- The modules of definitions of this crate.
pub mod Answers
pub mod Text
pub mod Settle
pub mod Step
