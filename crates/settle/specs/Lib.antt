-- The modules of definitions of this crate.
pub mod ShownAnswer
pub mod Step
