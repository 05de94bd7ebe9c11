-- Words of contracts within this crate.
pub mod Raising
