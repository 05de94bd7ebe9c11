-- The definitions of this crate, module by module: what its searches answer, and what its lines show.
pub mod Lines
pub mod Needed
pub mod Answers
pub mod ChoiceEdges
pub mod Splits
pub mod Work
pub mod Step
