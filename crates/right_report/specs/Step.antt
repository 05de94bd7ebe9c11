-- Words of contracts within this crate.
pub mod Writing
