-- Words of contracts within this crate.
pub mod Witness
pub mod Searched
pub mod Writing
pub mod Ready
