-- The modules of definitions of this crate.
pub mod Matrix
pub mod Step
