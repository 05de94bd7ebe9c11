-- The modules of definitions of this crate.
pub mod Rows
pub mod Matrix
pub mod Step
