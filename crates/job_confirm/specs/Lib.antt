-- The modules of definitions of this crate.
pub mod Confirm
pub mod Step
