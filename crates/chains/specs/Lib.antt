-- The modules of definitions of this crate.
pub mod Chain
pub mod Closed
pub mod Named
pub mod Only
pub mod Laws
pub mod MarkingLaws
pub mod Step
