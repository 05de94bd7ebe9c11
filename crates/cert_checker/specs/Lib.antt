-- The definitions of this crate: the faults of lines, their texts, where a checker stands, and laws.
pub mod Faults
pub mod FaultText
pub mod Checking
pub mod Laws
