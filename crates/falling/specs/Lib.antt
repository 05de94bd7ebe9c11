-- The modules of definitions of this crate.
pub mod Cap
pub mod Kinds
pub mod View
pub mod Gaps
pub mod Derivation
pub mod Agenda
pub mod DerivationEnds
pub mod Fallen
pub mod Rays
pub mod Checking
pub mod Solving
pub mod Laws
pub mod Step
