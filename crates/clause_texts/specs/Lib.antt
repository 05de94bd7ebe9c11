-- The modules of definitions of this crate.
pub mod Text
pub mod Answer
pub mod Step
