-- Words of contracts within this crate.
pub mod Keeping
pub mod Bounds
