-- The modules of definitions of this crate.
pub mod Clauses
pub mod Lines
pub mod Laws
pub mod Checking
pub mod Proofs
pub mod Step
