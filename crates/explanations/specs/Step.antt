-- Words of contracts within this crate.
pub mod Standing
pub mod Bounding
pub mod Resting
