-- Words of contracts within this crate.
pub mod Stages
pub mod Groups
pub mod CheckWalks
pub mod Bounds
pub mod Texts
