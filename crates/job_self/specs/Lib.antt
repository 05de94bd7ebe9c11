-- The modules of definitions of this crate.
pub mod Summary
pub mod Step
